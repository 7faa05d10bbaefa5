use Rattle.std.proofs.Common.{arith}
use Rattle.std.proofs.lemmas.Grind.{common_steps}
use Rattle.std.proofs.lemmas.List.Elements.{filter_map-append}
use Rattle.run_figure.proofs.figure.made_lanes.Goals as goal

pub loop-event-preserved : goal.loop-event-preserved
loop-event-preserved g c = grind (arith, common_steps, filter_map-append)
