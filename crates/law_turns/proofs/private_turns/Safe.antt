-- A private turn gives way to nobody's, up to who sleeps, who runs, and names of pipes.
use Rattle.std.proofs.Common.{[], ◌∷◌, inr}
use Rattle.user_calls.specs.declared.calls.Call.{Call}
use Rattle.user_calls.specs.declared.calls.Reply.{Reply}
use Rattle.kernel_model.specs.Turns.{after_turn}
use Rattle.kernel_model.specs.Reduced.{IsSafe}
use Rattle.kernel_model.specs.Begun.{DoesAwake, itself, likened, PrivatelyBegun}
use Rattle.law_turns.proofs.private_turns.Privates.{privates_both}
use Rattle.law_turns.proofs.private_turns.Begun.{begun_on, begun_still}
use Rattle.law_turns.proofs.private_turns.Awake.{alike_awake}

module _ {S : Type 0} (call : S → Reply → Call) (next : S → Reply → S) where
  -- a private turn gives way to nobody's
  pub privates_safe_awake : IsSafe (after_turn call next) (DoesAwake call next) (PrivatelyBegun call next)
  privates_safe_awake k a l p q e ne first second =
      let b = privates_both call next k a l p q (begun_still call next k e.begun) e.private ne first second in
      let begun_a = begun_on call next k a (p ∷ []) e.begun first in
      let begun_l = begun_on call next k l (q ∷ []) e.begun second in
      let begun_after = begun_on call next a b.after (q ∷ []) begun_a b.second in
      let begun_both = begun_on call next l b.both (p ∷ []) begun_l b.taken in
      record {
        both = b.both;
        taken = b.taken;
        still = record { private = b.still; begun = begun_l };
        joins = inr (q, b.after, b.second, likened b.after b.both b.both begun_after begun_both (alike_awake b.after b.both b.alike) (itself b.both));
      }
