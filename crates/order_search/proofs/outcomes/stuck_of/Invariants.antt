use Rattle.std.proofs.Common.{map, take}
use Rattle.std.specs.Prelude.{All}
use Rattle.kernel_model.specs.Explored.{IsFinishedOrBusy}
use Rattle.order_search.specs.Led.{kernel_of}
use Rattle.order_search.proofs.outcomes.stuck_of.Given as goal

abbrev pub invariant-loop-node : goal.invariant-loop-node
invariant-loop-node g l = All (IsFinishedOrBusy g.M.Machine.call_of g.M.Machine.next_of) (map kernel_of (take l.node-index l.nodes))
