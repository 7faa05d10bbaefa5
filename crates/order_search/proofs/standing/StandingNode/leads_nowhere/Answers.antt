use Rattle.std.proofs.Common.{◌≡◌, false, Some, None, sym, ap, ◌∙◌}
use Rattle.std.specs.Prelude.{Option}
use Rattle.proc_table.specs.Slots.{at, is_runnable}
use Rattle.kernel_model.specs.KernelState.{KernelState}
use Rattle.kernel_model.specs.Turns.{after_turn}
use Rattle.order_search.specs.Led.{Led}
use Rattle.order_search.proofs.Leading.{key_not, no_turn}
use Rattle.order_search.proofs.Looking.{unsaid}
use Rattle.order_search.proofs.standing.StandingNode.leads_nowhere.Goals as goal

pub returns : goal.returns
returns g c = λ yes t is.
    let S = g.row.M-State.Denot in
    let call = g.M.Machine.call_of in
    let next = g.M.Machine.next_of in
    let k : KernelState S = c.self.inside.kernel.value in
    let look : KernelState S = c.self.inside.look in
    let n = c.args.step_number in
    let idle : is_runnable (at look.table n) ≡ false = sym c.is_runnable.ensures.value ∙ unsaid c.is_runnable.result yes in
    let none : after_turn call next k n ≡ None = no_turn call next k n (key_not k look n c.self.invariant.look idle) in
    let T : Led S → Option (KernelState S) = λ m. after_turn call next m.now n in
    let both : ◌≡◌ {A = Option (KernelState S)} None (Some t) = sym none ∙ ap T c.self.view_is ∙ is in
    absurd (let z : ⊥ = cc in z)
