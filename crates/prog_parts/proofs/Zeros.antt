-- A search for a byte 0 finds whether there is one.
use Rattle.std.proofs.Common.{◌≡◌, ℕ, ◌==◌, true, false, Bool, Option, Some, None, refl, sym, ◌∙◌, ap, arith}
use Rattle.std.specs.Prelude.{slice_index}
use Rattle.std.specs.List.{list_any}
use Rattle.std.specs.Option.{is_some}
use Rattle.std.proofs.lemmas.Grind.{get_or_default_zero}
use Rattle.std.proofs.lemmas.List.Folds.{list_any_none, list_any-from_Any}
use Rattle.memchr.specs.Find.{IsFirstByte, is_byte}
use Rattle.mem_files.specs.Name.{Bytes}

not_true : (b : Bool) → (b ≡ true → ⊥) → b ≡ false
not_true true never = absurd (never refl)
not_true false never = refl

pub zero_test : (line : Bytes) (r : Option ℕ) → IsFirstByte (is_byte 0) line r → is_some r ≡ list_any (λ byte. byte == 0) line
zero_test line None nowhere =
    sym (list_any_none (λ byte. byte == 0) line (λ k d inside. not_true _ (λ is. nowhere k (omega arith) inside (ap (λ b. b == 0) (sym (get_or_default_zero line k d inside)) ∙ is))))
zero_test line (Some k) (none, is) =
    sym (list_any-from_Any (λ byte. byte == 0) line (k, slice_index line k, none.high, get_or_default_zero line k (slice_index line k) none.high, is))
