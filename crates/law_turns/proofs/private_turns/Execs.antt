-- An exec is private: it can be made at once.
use Rattle.std.proofs.Common.{◌≡◌, ◌≢◌, ℕ, Bool, false, Some, sym, ap, ◌∙◌}
use Rattle.std.specs.Prelude.{if◌then◌else◌}
use Rattle.user_calls.specs.declared.calls.Call.{Call}
use Rattle.user_calls.specs.declared.calls.Call.TheVariants.{Exec}
use Rattle.user_calls.specs.declared.calls.Reply.{Reply}
use Rattle.user_calls.specs.declared.calls.Reply.TheVariants.{Done, Refused}
use Rattle.proc_table.specs.declared.states.Status.TheVariants.{Runnable}
use Rattle.proc_table.specs.Slots.{Process, at}
use Rattle.kernel_model.specs.KernelState.{KernelState}
use Rattle.kernel_model.specs.Replies.{answered}
use Rattle.kernel_model.specs.Events.{acted}
use Rattle.kernel_model.specs.Alike.{Alike, IsStill}
use Rattle.kernel_model.specs.Turns.{after_turn}
use Rattle.law_turns.proofs.private_turns.Staying.{holds_itself}
use Rattle.law_turns.proofs.private_turns.Turned.{either, leaves}

-- the process p, not init, is Runnable and executes a program next
pub record Executes {S : Type 0} (call : S → Reply → Call) (k : KernelState S) (p : ℕ) : Type 0 where
  pub still : IsStill k
  pub child : p ≢ 0
  pub process : Process S
  pub there : at k.table p ≡ Some process
  pub ready : process.status ≡ Runnable
  pub found : Bool
  pub calls : call process.machine process.reply ≡ Exec found

module _ {S : Type 0} (call : S → Reply → Call) (next : S → Reply → S) where
  answers : (p : ℕ) (x : Process S) (found : Bool) → call x.machine x.reply ≡ Exec found → (k : KernelState S) → acted k p (next x.machine x.reply) (call x.machine x.reply) false ≡ answered k p (next x.machine x.reply) (if found then Done else Refused)
  answers p x found is k = ap (λ (c : Call). acted k p (next x.machine x.reply) c false) is

  -- what an exec and another's turn come to
  pub record Both (k a l : KernelState S) (p q : ℕ) : Type 0 where
    pub both : KernelState S
    pub taken : after_turn call next l p ≡ Some both
    pub still : Executes call l p
    pub after : KernelState S
    pub second : after_turn call next a q ≡ Some after
    pub after_still : IsStill after
    pub both_still : IsStill both
    pub alike : Alike after both

  pub execs_both : (k a l : KernelState S) (p q : ℕ) (e : Executes call k p) → p ≢ q → after_turn call next k p ≡ Some a → after_turn call next k q ≡ Some l → Both k a l p q
  execs_both k a l p q e ne first second =
      let x : Process S = e.process in
      let reply : Reply = if e.found then Done else Refused in
      let w = either call next p x reply (answers p x e.found e.calls) k l q (λ same. ne (sym same)) e.still (holds_itself x (at k.table p) e.there e.ready) second in
      let both : Some (leaves call next p x reply (answers p x e.found e.calls) k) ≡ Some a = sym w.first ∙ first in
      let same : leaves call next p x reply (answers p x e.found e.calls) k ≡ a = cc in
      record {
        both = leaves call next p x reply (answers p x e.found e.calls) l;
        taken = w.second;
        still = record {
          still = w.still;
          child = e.child;
          process = w.holds.now;
          there = w.holds.there;
          ready = w.holds.ready;
          found = e.found;
          calls = (λ i. call (w.holds.machine i) (w.holds.reply i)) ∙ e.calls;
        };
        after = w.after;
        second = ap (λ (m : KernelState S). after_turn call next m q) (sym same) ∙ w.third;
        after_still = w.after_still;
        both_still = w.both_still;
        alike = w.alike;
      }
