use Rattle.std.proofs.Common.{map, take}
use Rattle.order_search.specs.Led.{start_kernel, kernel_of}
use Rattle.order_search.specs.Told.{Tells}
use Rattle.order_search.proofs.outcomes.outcomes_of.Given as goal

abbrev pub invariant-loop-node : goal.invariant-loop-node
invariant-loop-node g l = Tells g.M.Machine.call_of g.M.Machine.next_of (start_kernel (g.M.Machine.view l.origin.init) (g.M.Machine.view l.origin.shell) l.origin.stdin.now l.origin.files.now) (map kernel_of (take l.node-index l.nodes)) l.outcomes.items
