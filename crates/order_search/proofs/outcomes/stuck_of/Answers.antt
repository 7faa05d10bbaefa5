use Rattle.std.proofs.Common.{◌≡◌, ◌≤◌, ◌<◌, ℕ, List, Ok, false, length, take, map, get_or, sym, subst, arith, rules}
use Rattle.std.specs.Prelude.{All}
use Rattle.std.proofs.lemmas.List.{map_more}
use Rattle.kernel_model.specs.KernelState.{KernelState}
use Rattle.kernel_model.specs.Explored.{IsFinishedOrBusy}
use Rattle.order_search.specs.Led.{Led, kernel_of}
use Rattle.order_search.proofs.Telling.{one_more, whole_take}
use Rattle.order_search.proofs.outcomes.stuck_of.Goals as goal

pub loop-node-preserved : goal.loop-node-preserved
loop-node-preserved g c =
    let S = g.row.M-State.Denot in
    let Good : KernelState S → Type 0 = IsFinishedOrBusy g.M.Machine.call_of g.M.Machine.next_of in
    let n : ℕ = c.loop-node.node-index in
    let nodes : List (Led S) = c.args.nodes.now in
    let item : Led S = c.node-item.result in
    let within : n < length nodes = omega arith in
    let told : c.is_stuck.result ≡ Ok false = search rules in
    let each : Good (kernel_of (get_or nodes n item)) = subst (λ (m : Led S). Good (kernel_of m)) c.node-item.is (c.is_stuck.ensures told) in
    subst (All Good) (sym (map_more kernel_of nodes n item within)) (one_more Good (map kernel_of (take n nodes)) (kernel_of (get_or nodes n item)) c.loop-node.invariant each)

pub returns-clause-busy : goal.returns-clause-busy
returns-clause-busy g c = λ is.
    let S = g.row.M-State.Denot in
    let Good : KernelState S → Type 0 = IsFinishedOrBusy g.M.Machine.call_of g.M.Machine.next_of in
    let over : length c.args.nodes.now ≤ c.loop-node.node-index = omega arith in
    subst (λ (nodes : List (Led S)). All Good (map kernel_of nodes)) (whole_take c.loop-node.node-index c.args.nodes.now over) c.loop-node.invariant
