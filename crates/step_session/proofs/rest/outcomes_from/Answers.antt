-- The turns of the session lead to where it is, since nothing was full.
use Rattle.std.proofs.Common.{◌≡◌, ℕ, List, Some, None, rules, sym, ap, subst, ◌∙◌}
use Rattle.kernel_model.specs.KernelState.{KernelState}
use Rattle.kernel_model.specs.Boot.{boot_kernel}
use Rattle.kernel_model.specs.Turns.{callers, quiet_turns, turn_events}
use Rattle.step_session.proofs.Adding.{first_is}
use Rattle.every_order.specs.Rest.{TellsAfter, TellsFrom}
use Rattle.every_order.proofs.Resting.{same_kernel}
use Rattle.step_session.proofs.rest.outcomes_from.Goals as goal

pub returns-clause-told : goal.returns-clause-told
returns-clause-told g c =
    let call = g.M.Machine.call_of in
    let next = g.M.Machine.next_of in
    let v = g.M.Machine.view in
    let h = c.args.session.now in
    let b = c.beginning-begun.result in
    let found = c.in_ok-found.found in
    let roomy : h.now.full ≡ None = search rules in
    let events : c.schedule.result.now ≡ h.schedule = search rules in
    let pids : c.as_slice.result.now ≡ callers h.schedule = c.as_slice.ensures.value ∙ c.in_ok-pids.ensures.callers ∙ ap callers events in
    let boots : boot_kernel (v b.init) (v b.shell) b.stdin.now b.files.now ≡ h.boot = sym (c.beginning-begun.ensures ∙ first_is (v b.init) (v b.shell) b.stdin.now b.files.now) in
    let tells : TellsAfter call next h.boot (callers h.schedule) found = subst (λ (ps : List ℕ). TellsAfter call next h.boot ps found) pids (subst (λ (k : KernelState g.row.M-State.Denot). TellsAfter call next k c.as_slice.result.now found) boots c.in_ok-found.ensures.told) in
    let same = same_kernel call next h.boot h.now tells.now (callers h.schedule) h.schedule h.notes c.is_by_turns.ensures c.replays.ensures roomy tells.turns in
    subst (λ (k : KernelState g.row.M-State.Denot). TellsFrom call next h.boot k found) same tells.tells
