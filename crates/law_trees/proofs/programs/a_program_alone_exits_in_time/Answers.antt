use Rattle.law_trees.proofs.programs.Timely.{reads_few, exits_alone, reads_input}
use Rattle.law_trees.proofs.programs.a_program_alone_exits_in_time.Goals as goal

pub returns-clause-reads : goal.returns-clause-reads
returns-clause-reads c = reads_few

pub returns-clause-exits : goal.returns-clause-exits
returns-clause-exits c = exits_alone

pub returns-clause-input : goal.returns-clause-input
returns-clause-input c = reads_input
