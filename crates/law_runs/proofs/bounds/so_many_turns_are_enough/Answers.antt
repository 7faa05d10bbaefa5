use Rattle.law_runs.proofs.bounds.Ending.{few_turns}
use Rattle.law_runs.proofs.bounds.so_many_turns_are_enough.Goals as goal

pub returns : goal.returns
returns c = λ profile lines input list turns are clear s full. few_turns profile lines input list are clear turns s full
