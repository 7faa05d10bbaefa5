-- What mends come to.
use Rattle.std.proofs.Common.{◌≡◌, ◌≢◌, ◌⊎◌, ℕ, zero, suc, ◌<◌, Option, Some, None, Result, Ok, Err, inl, inr, refl, sym, subst, arith, add-one}
use Rattle.std.specs.Prelude.{IfErr, IfOk, MatchOption}
use Rattle.std.specs.Global.{Global}
use Rattle.mem_files.specs.Name.{Bytes}
use Rattle.mem_files.specs.Files.{FileMap}
use Rattle.script_load.specs.declared.profile.Profile.{Profile}
use Rattle.script_load.proofs.OneScript.{one_script}
use Rattle.meaning_model.specs.Settled.{IsSettledScript}
use Rattle.plain_run.specs.declared.fault.PlainFault.TheVariants.{TooLarge, Memory}
use Rattle.plain_run.specs.declared.reason.Reason.{Reason}
use Rattle.script_mends.specs.Mended.{AreMends, HasNoMend, HasNoRule, IsMend, IsMendOver, IsNew, IsReasonOf, IsRefused, IsSettledText, IsUnmended, new_name, no_mend, no_name, one_more, outgrown, spoilt, unread, unruled}
use Rattle.script_mends.specs.Rounds.{IsMendFault, most_mends}
use Rattle.script_mends.specs.declared.rounds.MendFault.{MendFault}
use Rattle.script_mends.specs.declared.rounds.MendFault.TheVariants.{Load, Plain}

-- what follows a fault that became no mended script
pub after_none : {T E : Type 0} (result : Result (Option T) E) (count : ℕ) (fault : MendFault) (Q : Option T → Type 0) → IfOk result (λ found. (found ≡ None) × (0 < count) × (fault ≢ Plain Memory)) → (0 < count → fault ≢ Plain Memory → Q None) → IfOk result Q
after_none (Ok found) count fault Q is make = subst Q (sym is.0) (make is.1 is.2)
after_none (Err error) count fault Q is make = tt

module _ (profile : Profile) (input : Bytes) (F : FileMap) where
  -- of a script that is settled there is no reason why it isn't
  pub no_reason : (bytes : Bytes) (reason : Reason Global) → IsSettledText profile input F bytes → IsReasonOf profile input F bytes reason → ⊥
  no_reason bytes reason is why = why.unsettled (subst (λ lines. IsSettledScript profile lines input F) (one_script bytes is.lines why.lines is.script why.script) is.settled)

  pub no_unmended : (bytes : Bytes) → IsSettledText profile input F bytes → HasNoMend profile input F bytes → ⊥
  no_unmended bytes is (no_name {reason = reason} why taken) = no_reason bytes reason is why
  no_unmended bytes is (unruled {reason = reason} number why none) = no_reason bytes reason is why

  -- mends of a script that is settled are none, and none change nothing
  pub begun : (count : ℕ) (old new : Bytes) → IsSettledText profile input F old → AreMends profile input F count old new → new ≡ old
  begun count old new is no_mend = refl
  begun count old new is (one_more {count = before} {middle = middle} mends mend) =
      absurd (no_reason middle mend.reason (subst (IsSettledText profile input F) (sym (begun before old middle is mends)) is) mend.why)

  pub begun_none : (count : ℕ) (old new : Bytes) → IsSettledText profile input F old → AreMends profile input F count old new → count ≡ 0
  begun_none count old new is no_mend = refl
  begun_none count old new is (one_more {count = before} {middle = middle} mends mend) =
      absurd (no_reason middle mend.reason (subst (IsSettledText profile input F) (sym (begun before old middle is mends)) is) mend.why)

  pub none_change : (count : ℕ) (old new : Bytes) → AreMends profile input F count old new → count ≡ 0 → new ≡ old
  none_change count old new no_mend none = refl
  none_change count old new (one_more mends mend) none = absurd (omega (arith, none))

  -- a line that is mended over a new file is a mend
  pub mend_by : {T E : Type 0} (result : Result (Option T) E) (text : T → Bytes) (bytes : Bytes) (reason : Reason Global) (number : ℕ) → IsReasonOf profile input F bytes reason → IsNew F bytes (new_name number) →
      IfOk result (λ found. MatchOption found (HasNoRule bytes reason number) (λ new. IsMendOver bytes reason number (text new))) → IfOk result (λ found. MatchOption found (HasNoMend profile input F bytes) (λ new. IsMend profile input F bytes (text new)))
  mend_by (Ok None) text bytes reason number why is_new is = unruled number why is
  mend_by (Ok (Some new)) text bytes reason number why is_new is = record { reason = reason; why = why; number = number; name_new = is_new; over = is }
  mend_by (Err error) text bytes reason number why is_new is = tt

  -- a script with a fault, but for memory, is refused
  pub refused : (bytes : Bytes) (fault : MendFault) → fault ≢ Plain Memory → IsMendFault profile input F bytes fault → IsRefused profile input F bytes
  refused bytes (Load fault) other is = unread fault is
  refused bytes (Plain TooLarge) other is = outgrown is.0 is.1 is.2
  refused bytes (Plain Memory) other is = absurd (other refl)

  -- one that mends led to spoils them
  pub spoils : (count : ℕ) (bytes last : Bytes) (fault : MendFault) → 0 < count → fault ≢ Plain Memory → AreMends profile input F count bytes last → IsMendFault profile input F last fault → IsUnmended profile input F most_mends bytes
  spoils zero bytes last fault some other mends is = absurd (omega (arith, some))
  spoils (suc count) bytes last fault some other mends is = spoilt count (subst (λ n. AreMends profile input F n bytes last) (sym (add-one count)) mends) (refused last fault other is)

  -- a fault before any mend, or for memory, is one of the script itself
  fault_of : (count : ℕ) (bytes last : Bytes) (fault : MendFault) → AreMends profile input F count bytes last → IsMendFault profile input F last fault → (count ≡ 0) ⊎ (fault ≡ Plain Memory) → IsMendFault profile input F bytes fault
  fault_of count bytes last fault mends is (inl none) = subst (λ b. IsMendFault profile input F b fault) (none_change count bytes last mends none) is
  fault_of count bytes last fault mends is (inr same) = subst (IsMendFault profile input F bytes) (sym same) tt

  pub after_fault : {T : Type 0} (result : Result T MendFault) (count : ℕ) (bytes last : Bytes) (fault : MendFault) → AreMends profile input F count bytes last → IsMendFault profile input F last fault →
      IfErr result (λ told. (told ≡ fault) × ((count ≡ 0) ⊎ (fault ≡ Plain Memory))) → IfErr result (IsMendFault profile input F bytes)
  after_fault (Ok found) count bytes last fault mends is was = tt
  after_fault (Err told) count bytes last fault mends is was = subst (IsMendFault profile input F bytes) (sym was.0) (fault_of count bytes last fault mends is was.1)
