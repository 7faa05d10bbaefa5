use Rattle.process_model.proofs.Finished.{finished}
use Rattle.process_model.proofs.laws.a_finished_kernel_stands_for_nothing_left.Goals as goal

pub returns : goal.returns
returns c = finished
