use Rattle.law_answers.proofs.Agreeing.{agrees, runs_agree}
use Rattle.law_answers.proofs.laws.two_runs_print_the_same.Goals as goal

pub returns-clause-by_processes : goal.returns-clause-by_processes
returns-clause-by_processes c = λ s how other one two diag report known settled apart aside gave again. runs_agree s.input s.file s.profile s.script s.paths known settled how other one two diag report apart aside gave again

pub returns-clause-by_meaning : goal.returns-clause-by_meaning
returns-clause-by_meaning c = λ s how one two diag known apart gave plain. agrees s.input s.file s.profile s.script s.paths known how one two diag apart gave plain
