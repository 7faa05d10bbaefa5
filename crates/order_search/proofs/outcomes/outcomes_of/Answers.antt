use Rattle.std.proofs.Common.{ℕ, ◌<◌, ◌≤◌, List, [], ◌∷◌, ◌++◌, length, take, map, sym, subst, arith}
use Rattle.std.proofs.lemmas.List.{map_more}
use Rattle.kernel_model.specs.KernelState.{KernelState}
use Rattle.order_search.specs.Led.{Led, start_kernel, kernel_of}
use Rattle.order_search.specs.Told.{Tells}
use Rattle.order_search.proofs.Telling.{tells_first, tells_next, whole_take}
use Rattle.order_search.proofs.outcomes.outcomes_of.Goals as goal

pub loop-node-init : goal.loop-node-init
loop-node-init g c =
    let v = g.M.Machine.view in
    let o = c.args.origin.now in
    let start = start_kernel (v o.init) (v o.shell) o.stdin.now o.files.now in
    subst (Tells g.M.Machine.call_of g.M.Machine.next_of start []) (sym c.new-outcomes.ensures.items) (tells_first g.M.Machine.call_of g.M.Machine.next_of start)

pub loop-node-preserved : goal.loop-node-preserved
loop-node-preserved g c =
    let S = g.row.M-State.Denot in
    let v = g.M.Machine.view in
    let o = c.args.origin.now in
    let start = start_kernel (v o.init) (v o.shell) o.stdin.now o.files.now in
    let n : ℕ = c.loop-node.node-index in
    let nodes : List (Led S) = c.args.nodes.now in
    let item : Led S = c.node-item.result in
    let after = c.tell_of.new.outcomes.items in
    let within : n < length nodes = omega arith in
    let more : Tells g.M.Machine.call_of g.M.Machine.next_of start (map kernel_of (take n nodes) ++ kernel_of item ∷ []) after = tells_next g.M.Machine.call_of g.M.Machine.next_of start (map kernel_of (take n nodes)) (kernel_of item) c.loop-node.outcomes.items after c.loop-node.invariant c.in_ok-tell_of.ensures.told c.in_ok-tell_of.ensures.added in
    subst (λ (seen : List (KernelState S)). Tells g.M.Machine.call_of g.M.Machine.next_of start seen after) (sym (map_more kernel_of nodes n item within))
    (subst (λ (m : Led S). Tells g.M.Machine.call_of g.M.Machine.next_of start (map kernel_of (take n nodes) ++ kernel_of m ∷ []) after) c.node-item.is more)

pub returns : goal.returns
returns g c =
    let S = g.row.M-State.Denot in
    let v = g.M.Machine.view in
    let o = c.args.origin.now in
    let start = start_kernel (v o.init) (v o.shell) o.stdin.now o.files.now in
    let over : length c.args.nodes.now ≤ c.loop-node.node-index = omega arith in
    subst (λ (nodes : List (Led S)). Tells g.M.Machine.call_of g.M.Machine.next_of start (map kernel_of nodes) c.loop-node.outcomes.items) (whole_take c.loop-node.node-index c.args.nodes.now over) c.loop-node.invariant
