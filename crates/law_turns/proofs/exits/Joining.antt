-- An exit gives way to nobody's turn but to a wait that frees a zombie, where whatever is opened later finds free entries.
use Rattle.std.proofs.Common.{◌≡◌, ◌≢◌, ◌⊎◌, ℕ, [], ◌∷◌, Some, inl, inr, refl}
use Rattle.user_calls.specs.declared.calls.Call.{Call}
use Rattle.user_calls.specs.declared.calls.Reply.{Reply}
use Rattle.kernel_model.specs.KernelState.{KernelState}
use Rattle.kernel_model.specs.Anyhow.{DoesAnyhow, itself, likened}
use Rattle.kernel_model.specs.Begun.{IsBegun}
use Rattle.kernel_model.specs.Reduced.{Joins}
use Rattle.kernel_model.specs.Turns.{after_turn}
use Rattle.law_turns.proofs.private_turns.Begun.{begun_on}
use Rattle.law_turns.proofs.read_ends.Safe.{room_on}
use Rattle.kernel_model.specs.Giving.{ReapsNext}
use Rattle.law_turns.specs.Exits.{ExitsInRoom, InEitherOrderAnyhow, IsDoneAnyhow, InEitherOrderReaping}
use Rattle.law_turns.proofs.exits.Whole.{exits_either, exits_stay}

module _ {S : Type 0} (call : S → Reply → Call) (next : S → Reply → S) where
  pub exits_join : (k a l : KernelState S) (p q : ℕ) → ExitsInRoom call next k p → q ≢ p → (ReapsNext call next k q → ⊥) → after_turn call next k p ≡ Some a → after_turn call next k q ≡ Some l
      → Joins (after_turn call next) (DoesAnyhow call next) (ExitsInRoom call next) a l p
  exits_join k a l p q e other frees_none first second = by (exits_either call next k a l p q e.begun e.exits e.child other (e.room [] k q refl) first second) where
    begun_a : IsBegun call next a
    begun_a = begun_on call next k a (p ∷ []) e.begun first

    begun_l : IsBegun call next l
    begun_l = begun_on call next k l (q ∷ []) e.begun second

    still : ExitsInRoom call next l p
    still = record { child = e.child; exits = exits_stay call next k l p q e.begun e.exits other second; room = room_on call next k l q e.room second; begun = begun_l }

    by : InEitherOrderAnyhow call next a l p q ⊎ (IsDoneAnyhow call next a l p ⊎ InEitherOrderReaping call next k a l p q) → Joins (after_turn call next) (DoesAnyhow call next) (ExitsInRoom call next) a l p
    by (inl b) =
        record {
          both = b.both;
          taken = b.taken;
          still = still;
          joins = inr (q, b.after, b.second, likened b.after b.both b.both (begun_on call next a b.after (q ∷ []) begun_a b.second) (begun_on call next l b.both (p ∷ []) begun_l b.taken) b.alike (itself b.both));
        }
    by (inr (inl b)) =
        record { both = b.both; taken = b.taken; still = still; joins = inl (likened a b.both b.both begun_a (begun_on call next l b.both (p ∷ []) begun_l b.taken) b.alike (itself b.both)) }
    by (inr (inr b)) = absurd (frees_none b.reaps)
