use Rattle.law_trees.proofs.programs.FileReading.{call_ahead, refused_ahead, ahead_more}
use Rattle.law_trees.proofs.programs.what_it_reads_of_files_was_ahead.Goals as goal

pub returns-clause-call : goal.returns-clause-call
returns-clause-call c = call_ahead

pub returns-clause-refused : goal.returns-clause-refused
returns-clause-refused c = λ state world L. refused_ahead state world.own L

pub returns-clause-larger : goal.returns-clause-larger
returns-clause-larger c = ahead_more
