use Rattle.process_model.proofs.Start.{start_stands}
use Rattle.process_model.proofs.laws.the_start_stands_for_the_script.Goals as goal

pub returns : goal.returns
returns c = start_stands
