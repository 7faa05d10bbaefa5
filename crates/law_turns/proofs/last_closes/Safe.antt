-- Private turns give way to nobody's, up to who sleeps, who runs, names of pipes and numbers of entries.
use Rattle.std.proofs.Common.{inl, inr}
use Rattle.user_calls.specs.declared.calls.Call.{Call}
use Rattle.user_calls.specs.declared.calls.Reply.{Reply}
use Rattle.kernel_model.specs.KernelState.{KernelState}
use Rattle.kernel_model.specs.Turns.{after_turn}
use Rattle.kernel_model.specs.Reduced.{IsSafe, ComesTo}
use Rattle.kernel_model.specs.Begun.{DoesAwake, itself as awake_itself, likened as awake_likened, PrivatelyBegun}
use Rattle.kernel_model.specs.Anyhow.{DoesAnyhow, itself, likened}
use Rattle.law_turns.proofs.private_turns.Safe.{privates_safe_awake}
use Rattle.law_turns.proofs.last_closes.Anyhow.{awake_anyhow}

module _ {S : Type 0} (call : S → Reply → Call) (next : S → Reply → S) where
  widened : (k l : KernelState S) → DoesAwake call next k l → DoesAnyhow call next k l
  widened k l (awake_itself j) = itself j
  widened k l (awake_likened i j n b d alike rest) = likened i j n b d (awake_anyhow i j alike) (widened j n rest)

  widened_joins : (a both : KernelState S) → ComesTo (after_turn call next) (DoesAwake call next) a both → ComesTo (after_turn call next) (DoesAnyhow call next) a both
  widened_joins a both (inl d) = inl (widened a both d)
  widened_joins a both (inr s) = inr (s.0, s.1, s.2, widened s.1 both s.3)

  pub privates_safe_anyhow : IsSafe (after_turn call next) (DoesAnyhow call next) (PrivatelyBegun call next)
  privates_safe_anyhow k a l p q e ne first second =
      let b = privates_safe_awake call next k a l p q e ne first second in
      record { both = b.both; taken = b.taken; still = b.still; joins = widened_joins a b.both b.joins }
