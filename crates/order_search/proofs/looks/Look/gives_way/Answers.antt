use Rattle.std.proofs.Common.{◌≡◌, ◌<◌, ℕ, true, false, length, ap, sym, subst, ◌∙◌, rules}
use Rattle.std.specs.Prelude.{not, ◌==◌}
use Rattle.user_calls.specs.declared.calls.Call.TheVariants.{Fork, Exit, Wait}
use Rattle.proc_table.specs.Slots.{at}
use Rattle.kernel_model.specs.KernelState.{KernelState}
use Rattle.kernel_model.specs.Closes.{IsClosedAtOnce}
use Rattle.order_search.specs.Shown.{slot_of, IsPrivateSlot, IsClosingSlot, IsCallingSlot, IsReadyCall}
use Rattle.order_search.specs.Giving.{privately, closes, forks, reaps, exits}
use Rattle.order_search.proofs.Looking.{at_kept, closes_known, forks_known, reaps_known, exits_known}
use Rattle.order_search.proofs.looks.Look.gives_way.Goals.{then-pid-ne0, else-pid-ne0, then-pid-ne0-3, else-pid-ne0-3}
use Rattle.order_search.proofs.looks.Look.gives_way.Goals as goal

pub returns-then-ahead : goal.returns-then-ahead
returns-then-ahead g c = λ yes.
    let call = g.M.Machine.call_of in
    let k = c.args.self.now in
    let pid = c.args.pid in
    let entry = c.in-Closes.entry in
    let xs = c.self.inside.slots.items in
    let within : pid < length xs = search rules in
    let there : at k.table pid ≡ slot_of c.index.result.now = ap (λ (j : KernelState g.row.M-State.Denot). at j.table pid) (sym c.self.view_is) ∙ at_kept xs pid c.index.result.now within ∙ ap slot_of (sym c.index.ensures) in
    let closing : IsClosingSlot call entry (slot_of c.index.result.now) = subst (IsReadyCall call (slot_of c.index.result.now)) c.in-Closes.is c.ready_call.ensures in
    let made = closes_known call g.M.Machine.next_of k pid entry (IsClosedAtOnce k pid) (subst (IsClosingSlot call entry) (sym there) closing) (c.is_closed_at_once.ensures yes) in
    elim c.if-pid-ne0.branch [
      | then-pid-ne0 w ↦ closes w.if-pid-ne0.true (sym w.value-is ∙ c.if-ahead.true) made
      | else-pid-ne0 w ↦ absurd (let no : true ≡ false = sym c.if-ahead.true ∙ w.value-is ∙ ap (λ (n : ℕ). not (n == 0)) w.if-pid-ne0.false in let z : ⊥ = cc in z)
    ]

pub returns-then-pid-ne0-2 : goal.returns-then-pid-ne0-2
returns-then-pid-ne0-2 g c = λ yes.
    let call = g.M.Machine.call_of in
    let k = c.args.self.now in
    let pid = c.args.pid in
    let xs = c.self.inside.slots.items in
    let within : pid < length xs = search rules in
    let there : at k.table pid ≡ slot_of c.index.result.now = ap (λ (j : KernelState g.row.M-State.Denot). at j.table pid) (sym c.self.view_is) ∙ at_kept xs pid c.index.result.now within ∙ ap slot_of (sym c.index.ensures) in
    let forking : IsCallingSlot call Fork (slot_of c.index.result.now) = subst (IsReadyCall call (slot_of c.index.result.now)) c.in-Forks.is c.ready_call.ensures in
    forks c.if-pid-ne0-2.true yes (forks_known call k pid (subst (IsCallingSlot call Fork) (sym there) forking))

pub returns-then-ahead-2 : goal.returns-then-ahead-2
returns-then-ahead-2 g c = λ yes.
    let call = g.M.Machine.call_of in
    let k = c.args.self.now in
    let pid = c.args.pid in
    let xs = c.self.inside.slots.items in
    let within : pid < length xs = search rules in
    let there : at k.table pid ≡ slot_of c.index.result.now = ap (λ (j : KernelState g.row.M-State.Denot). at j.table pid) (sym c.self.view_is) ∙ at_kept xs pid c.index.result.now within ∙ ap slot_of (sym c.index.ensures) in
    let waiting : IsCallingSlot call Wait (slot_of c.index.result.now) = subst (IsReadyCall call (slot_of c.index.result.now)) c.in-Waits.is c.ready_call.ensures in
    reaps c.if-ahead-2.true (reaps_known call g.M.Machine.next_of k pid (subst (IsCallingSlot call Wait) (sym there) waiting) (c.has_zombie_child.ensures yes))

pub returns-then-ahead-3 : goal.returns-then-ahead-3
returns-then-ahead-3 g c = λ yes.
    let call = g.M.Machine.call_of in
    let k = c.args.self.now in
    let pid = c.args.pid in
    let xs = c.self.inside.slots.items in
    let within : pid < length xs = search rules in
    let there : at k.table pid ≡ slot_of c.index.result.now = ap (λ (j : KernelState g.row.M-State.Denot). at j.table pid) (sym c.self.view_is) ∙ at_kept xs pid c.index.result.now within ∙ ap slot_of (sym c.index.ensures) in
    let exiting : IsCallingSlot call Exit (slot_of c.index.result.now) = subst (IsReadyCall call (slot_of c.index.result.now)) c.in-Exits.is c.ready_call.ensures in
    let made = exits_known call g.M.Machine.next_of k pid (subst (IsCallingSlot call Exit) (sym there) exiting) (c.lets_go_at_once.ensures yes) in
    elim c.if-pid-ne0-3.branch [
      | then-pid-ne0-3 w ↦ exits w.if-pid-ne0-3.true (sym w.value-is ∙ c.if-ahead-3.true) made
      | else-pid-ne0-3 w ↦ absurd (let no : true ≡ false = sym c.if-ahead-3.true ∙ w.value-is ∙ ap (λ (n : ℕ). not (n == 0)) w.if-pid-ne0-3.false in let z : ⊥ = cc in z)
    ]

pub returns-in-Private : goal.returns-in-Private
returns-in-Private g c = λ yes.
    let call = g.M.Machine.call_of in
    let k = c.args.self.now in
    let pid = c.args.pid in
    let xs = c.self.inside.slots.items in
    let within : pid < length xs = search rules in
    let there : at k.table pid ≡ slot_of c.index.result.now = ap (λ (j : KernelState g.row.M-State.Denot). at j.table pid) (sym c.self.view_is) ∙ at_kept xs pid c.index.result.now within ∙ ap slot_of (sym c.index.ensures) in
    let alone : IsPrivateSlot call (slot_of c.index.result.now) = subst (IsReadyCall call (slot_of c.index.result.now)) c.in-Private.is c.ready_call.ensures in
    privately (λ zero. let no : true ≡ false = sym yes ∙ ap (λ (n : ℕ). not (n == 0)) zero in absurd (let z : ⊥ = cc in z)) (subst (IsPrivateSlot call) (sym there) alone)
