use Rattle.law_runs.proofs.never_stuck.Turns.{spends_turns}
use Rattle.law_runs.proofs.never_stuck.a_run_spends_its_turns.Goals as goal

pub returns : goal.returns
returns c = λ profile lines input list turns are plain s full. spends_turns profile lines input list turns are plain s full
