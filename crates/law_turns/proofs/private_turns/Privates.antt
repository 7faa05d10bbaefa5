-- Each of the private turns can be taken before or after any other process's turn, and stays private until it is taken.
use Rattle.std.proofs.Common.{◌≡◌, ◌≢◌, ℕ, ◌≤◌, Some, None, sym, ap, subst, ◌∙◌}
use Rattle.std.proofs.Math.ListN.{set}
use Rattle.user_calls.specs.declared.calls.Call.{Call}
use Rattle.user_calls.specs.declared.calls.Reply.{Reply}
use Rattle.user_calls.specs.declared.calls.Reply.TheVariants.{Done, Fd}
use Rattle.fd_table.specs.Descriptors.{Descriptors, holders_in}
use Rattle.proc_table.specs.Slots.{Process, at}
use Rattle.kernel_model.specs.KernelState.{KernelState}
use Rattle.kernel_model.specs.Alike.{Alike, IsStill}
use Rattle.kernel_model.specs.Turns.{after_turn}
use Rattle.kernel_model.specs.Privately.{IsPrivateCall, executes, dups, closes, Privately}
use Rattle.law_turns.proofs.private_turns.Staying.{Holds, holds_itself}
use Rattle.law_turns.proofs.private_turns.Holders.{holds_one}
use Rattle.law_turns.proofs.private_turns.Execs.{execs_both}
use Rattle.law_turns.proofs.private_turns.Shared.{either, changes}
use Rattle.law_turns.proofs.private_turns.Dups.{up, down, up_suits, down_suits, left_with, dup_own, close_own}

module _ {S : Type 0} (call : S → Reply → Call) (next : S → Reply → S) where
  -- what a private turn and another's turn come to
  pub record Both (k a l : KernelState S) (p q : ℕ) : Type 0 where
    pub both : KernelState S
    pub taken : after_turn call next l p ≡ Some both
    pub still : Privately call l p
    pub after : KernelState S
    pub second : after_turn call next a q ≡ Some after
    pub after_still : IsStill after
    pub both_still : IsStill both
    pub alike : Alike after both

  private_there : (l : KernelState S) (p : ℕ) (x : Process S) → p ≢ 0 → Holds x (at l.table p) → IsPrivateCall x.fds (call x.machine x.reply) → Privately call l p
  private_there l p x child h calls =
      record {
        child = child;
        process = h.now;
        there = h.there;
        ready = h.ready;
        calls = subst (λ (c : Call). IsPrivateCall h.now.fds c) (λ i. call (sym h.machine i) (sym h.reply i)) (subst (λ (f : Descriptors). IsPrivateCall f (call x.machine x.reply)) (sym h.fds) calls);
      }

  module _ (k a l : KernelState S) (p q : ℕ) (still : IsStill k) (e : Privately call k p) (ne : p ≢ q) (first : after_turn call next k p ≡ Some a) (second : after_turn call next k q ≡ Some l) where
    abbrev x : Process S
    x = e.process

    here : Holds x (at k.table p)
    here = holds_itself x (at k.table p) e.there e.ready

    both_by : IsPrivateCall x.fds (call x.machine x.reply) → Both k a l p q
    both_by (executes found is) =
        let b = execs_both call next k a l p q (record { still = still; child = e.child; process = x; there = e.there; ready = e.ready; found = found; calls = is }) ne first second in
        record {
          both = b.both;
          taken = b.taken;
          still = private_there l p b.still.process e.child (holds_itself b.still.process (at l.table p) b.still.there b.still.ready) (executes b.still.found b.still.calls);
          after = b.after;
          second = b.second;
          after_still = b.after_still;
          both_still = b.both_still;
          alike = b.alike;
        }
    both_by (dups fd entry place is held free) =
        let enough : 1 ≤ holders_in x.fds entry = holds_one x.fds fd entry held in
        let own = λ (m : KernelState S) (there : IsStill m) (h : Holds x (at m.table p)). dup_own call next p x m there h fd entry place enough is held free in
        let w = either call next p x (left_with call next p x (Fd place) (set x.fds place (Some entry))) up entry 1 up_suits enough own k l q (λ same. ne (sym same)) still here second in
        let one : Some (changes call next p x (left_with call next p x (Fd place) (set x.fds place (Some entry))) up entry 1 up_suits enough k) ≡ Some a = sym w.first ∙ first in
        let same : changes call next p x (left_with call next p x (Fd place) (set x.fds place (Some entry))) up entry 1 up_suits enough k ≡ a = cc in
        record {
          both = changes call next p x (left_with call next p x (Fd place) (set x.fds place (Some entry))) up entry 1 up_suits enough l;
          taken = w.second;
          still = private_there l p x e.child w.holds e.calls;
          after = w.after;
          second = ap (λ (m : KernelState S). after_turn call next m q) (sym same) ∙ w.third;
          after_still = w.after_still;
          both_still = w.both_still;
          alike = w.alike;
        }
    both_by (closes fd entry is held enough) =
        let own = λ (m : KernelState S) (there : IsStill m) (h : Holds x (at m.table p)). close_own call next p x m there h fd entry enough is held in
        let w = either call next p x (left_with call next p x Done (set x.fds fd None)) down entry 2 down_suits enough own k l q (λ same. ne (sym same)) still here second in
        let one : Some (changes call next p x (left_with call next p x Done (set x.fds fd None)) down entry 2 down_suits enough k) ≡ Some a = sym w.first ∙ first in
        let same : changes call next p x (left_with call next p x Done (set x.fds fd None)) down entry 2 down_suits enough k ≡ a = cc in
        record {
          both = changes call next p x (left_with call next p x Done (set x.fds fd None)) down entry 2 down_suits enough l;
          taken = w.second;
          still = private_there l p x e.child w.holds e.calls;
          after = w.after;
          second = ap (λ (m : KernelState S). after_turn call next m q) (sym same) ∙ w.third;
          after_still = w.after_still;
          both_still = w.both_still;
          alike = w.alike;
        }

    pub privates_both : Both k a l p q
    privates_both = both_by e.calls
