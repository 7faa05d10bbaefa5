use Rattle.law_answers.proofs.Explored.{known_prints}
use Rattle.law_answers.proofs.laws.what_explore_knows_of_a_roomy_script_is_what_each_run_prints.Goals as goal

pub returns : goal.returns
returns c = λ s states all value known e roomy how full text diag apart gave. known_prints s.input s.file s.profile s.script s.paths states all value known e roomy how full text diag apart gave
