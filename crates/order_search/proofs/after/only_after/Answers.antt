use Rattle.kernel_model.specs.Giving.{GivesWay}
use Rattle.order_search.specs.Led.{start_kernel}
use Rattle.order_search.specs.After.{GivesWayAfter}
use Rattle.order_search.proofs.Looking.{if_some_more}
use Rattle.order_search.proofs.after.only_after.Goals as goal

pub returns : goal.returns
returns g c =
    let v = g.M.Machine.view in
    let of = g.M.Machine.call_of in
    let on = g.M.Machine.next_of in
    let o = c.args.origin.now in
    let n = c.in_ok-node.node in
    if_some_more c.private_move.result (GivesWay of on n.now) (GivesWayAfter of on (start_kernel (v o.init) (v o.shell) o.stdin.now o.files.now) c.args.pids.now)
    (λ pid gives. record { now = n.now; turns = c.in_ok-node.ensures; gives = gives }) c.private_move.ensures
