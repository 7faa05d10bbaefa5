-- Ways to end that several calls share: a refusal, one for want of room, and either of two.
use Rattle.std.proofs.Common.{◌≡◌, ℕ, Bool, true, false, refl}
use Rattle.std.specs.Prelude.{if◌then◌else◌}
use Rattle.user_calls.specs.declared.calls.Call.{Call}
use Rattle.user_calls.specs.declared.calls.Reply.TheVariants.{Refused}
use Rattle.kernel_model.specs.declared.events.Full.{Full}
use Rattle.kernel_model.specs.KernelState.{KernelState}
use Rattle.kernel_model.specs.Replies.{answered, refused_for}
use Rattle.law_kernel.specs.Outcome.{Outcome, refused, lacks}

module _ {S : Type 0} {k : KernelState S} {pid : ℕ} {after : S} {call : Call} where
  pub denied : Outcome k pid after call (answered k pid after Refused)
  denied = refused refl

  pub no_room : (full : Full) → Outcome k pid after call (refused_for k pid after full)
  no_room full = lacks full refl

  pub either : (b : Bool) (x y : KernelState S) → (b ≡ true → Outcome k pid after call x) → (b ≡ false → Outcome k pid after call y) → Outcome k pid after call (if b then x else y)
  either true x y ex ey = ex refl
  either false x y ex ey = ey refl
