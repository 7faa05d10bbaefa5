-- The law of an exit of a process that holds no descriptor.
use Rattle.std.proofs.Common.{◌≡◌, ◌≢◌, ◌⊎◌, ℕ, false, Some, sym, ap, subst, ◌∙◌}
use Rattle.user_calls.specs.declared.calls.Call.{Call}
use Rattle.user_calls.specs.declared.calls.Reply.{Reply}
use Rattle.fd_table.specs.Descriptors.{Descriptors, entry_of}
use Rattle.proc_table.specs.declared.states.Status.TheVariants.{Runnable}
use Rattle.proc_table.specs.Slots.{Process, at}
use Rattle.kernel_model.specs.KernelState.{KernelState}
use Rattle.kernel_model.specs.Alike.{IsStill}
use Rattle.kernel_model.specs.Begun.{IsBegun}
use Rattle.kernel_model.specs.Turns.{after_turn}
use Rattle.law_turns.proofs.orders.Back.{could_turn}
use Rattle.law_turns.proofs.orders.Follow.{after_turn as turned}
use Rattle.law_turns.proofs.private_turns.Begun.{begun_still}
use Rattle.law_turns.proofs.private_turns.Staying.{Holds, holds_itself, in_own}
use Rattle.law_turns.proofs.private_turns.Turned.{turn_is, turn_keeps, ready_slot, runnable_by}
use Rattle.law_turns.specs.Exits.{ExitsBareNext, InEitherOrderAnyhow, IsDoneAnyhow, InEitherOrderReaping}
use Rattle.law_turns.proofs.exits.Exiting.{buries, own}
use Rattle.law_turns.proofs.exits.Turned.{either_by}
use Rattle.law_turns.proofs.exits.Families.{waiters_put_nothing, rooted}

module _ {S : Type 0} (call : S → Reply → Call) (next : S → Reply → S) where
  pub bare_either : (k a l : KernelState S) (p q : ℕ) → IsBegun call next k → ExitsBareNext call next k p → p ≢ 0 → q ≢ p → after_turn call next k p ≡ Some a → after_turn call next k q ≡ Some l
      → InEitherOrderAnyhow call next a l p q ⊎ (IsDoneAnyhow call next a l p ⊎ InEitherOrderReaping call next k a l p q)
  bare_either k a l p q b e child ne first second =
      let x : Process S = e.process in
      let h : Holds x (at k.table p) = holds_itself x (at k.table p) e.there e.ready in
      let r = ready_slot (at k.table q) (could_turn call next k (record { pid = q; refused = false }) (l, second)) in
      let ready : r.process.status ≡ Runnable = runnable_by r.process.status r.ready in
      let still : IsStill k = begun_still call next k b in
      let one : Some (buries call next p x e.calls child e.bare k) ≡ Some a = sym (own call next p x e.calls child e.bare k still h) ∙ first in
      let two : Some (turned call next k q r.process false) ≡ Some l = sym (turn_is call next k q r.process still r.there r.ready) ∙ second in
      let same_a : buries call next p x e.calls child e.bare k ≡ a = cc in
      let same_l : turned call next k q r.process false ≡ l = cc in
      let Q : KernelState S → KernelState S → Type 0 = λ i j. InEitherOrderAnyhow call next i j p q ⊎ (IsDoneAnyhow call next i j p ⊎ InEitherOrderReaping call next k i j p q) in
      let d_holds = in_own x p q ne k.table _ h in
      subst (λ (j : KernelState S). Q j l) same_a
      (subst (λ (j : KernelState S). Q (buries call next p x e.calls child e.bare k) j) same_l
      (either_by call next p x e.calls child e.bare k b q r.process ne h r.there ready (waiters_put_nothing call next k b q r.process r.there) (λ init. rooted call next k b q p r.process d_holds.now r.there ready d_holds.there child)))

  pub bare_stays : (k l : KernelState S) (p q : ℕ) → IsBegun call next k → ExitsBareNext call next k p → q ≢ p → after_turn call next k q ≡ Some l → ExitsBareNext call next l p
  bare_stays k l p q b e ne second =
      let x : Process S = e.process in
      let h : Holds x (at k.table p) = holds_itself x (at k.table p) e.there e.ready in
      let r = ready_slot (at k.table q) (could_turn call next k (record { pid = q; refused = false }) (l, second)) in
      let two : Some (turned call next k q r.process false) ≡ Some l = sym (turn_is call next k q r.process (begun_still call next k b) r.there r.ready) ∙ second in
      let same_l : turned call next k q r.process false ≡ l = cc in
      let now : Holds x (at (turned call next k q r.process false).table p) = turn_keeps call next k p q x r.process ne h in
      subst (λ (j : KernelState S). ExitsBareNext call next j p) same_l
      (record { process = now.now; there = now.there; ready = now.ready; calls = (λ i. call (now.machine i) (now.reply i)) ∙ e.calls; bare = λ fd. ap (λ (f : Descriptors). entry_of f fd) now.fds ∙ e.bare fd })
