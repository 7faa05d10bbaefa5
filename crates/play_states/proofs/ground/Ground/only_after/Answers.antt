use Rattle.std.proofs.Common.{sym, subst, ◌∙◌}
use Rattle.std.specs.Prelude.{IfSome}
use Rattle.kernel_model.specs.KernelState.{KernelState}
use Rattle.order_search.specs.Room.{HasAhead}
use Rattle.order_search.specs.After.{GivesWayAfter}
use Rattle.order_search.proofs.Leading.{start_is}
use Rattle.play_states.proofs.ground.Ground.only_after.Goals as goal

pub only_after-requires : goal.only_after-requires
only_after-requires g c =
    let v = g.M.Machine.view in
    let o = c.self.inside.origin in
    subst (HasAhead g.M.Machine.call_of g.M.Machine.next_of o.ahead) (sym (start_is (v o.init) (v o.shell) o.stdin.now o.files.now)) c.self.invariant

pub returns : goal.returns
returns g c =
    let v = g.M.Machine.view in
    let o = c.self.inside.origin in
    subst (λ (k : KernelState g.row.M-State.Denot). IfSome c.in_ok-only.only (GivesWayAfter g.M.Machine.call_of g.M.Machine.next_of k c.args.pids.now)) (start_is (v o.init) (v o.shell) o.stdin.now o.files.now ∙ c.self.view_is) c.in_ok-only.ensures
