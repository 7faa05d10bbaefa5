-- One file more was given its bytes.
use Rattle.std.proofs.Common.{◌≡◌, ℕ, suc, ◌+◌, ◌<◌, true, false, Some, List, ◌∷◌, cond, length, drop, get_or, refl, sym, ◌∙◌, ap, subst, arith, inr, inl}
use Rattle.std.proofs.Math.Seq.{drop-cons}
use Rattle.std.proofs.lemmas.Bool.{false≢true}
use Rattle.std.proofs.lemmas.List.Folds.{list_any_at}
use Rattle.std.specs.Str.{bytes_eq}
use Rattle.mem_files.specs.Name.{Name, Bytes, is_openable}
use Rattle.mem_files.specs.Files.{FileMap, with_file}
use Rattle.mem_files.specs.Listing.{max_size}
use Rattle.meaning_model.specs.Limits.{OnOpened, FillOutgrows, HasNoRoom}
use Rattle.meaning_model.specs.Tee.{filled}
use Rattle.plain_run.specs.Gives.{SameBeside}

filled_one : (name : Name) (names : List Name) (bytes : Bytes) (F : FileMap) → is_openable name ≡ true → filled (name ∷ names) bytes F ≡ filled names bytes (with_file F name bytes)
filled_one name names bytes F good = ap (λ b. cond b (filled names bytes (with_file F name bytes)) F) good

outgrows_one : (name : Name) (names : List Name) (bytes : Bytes) (F : FileMap) → is_openable name ≡ true → FillOutgrows names bytes (with_file F name bytes) → FillOutgrows (name ∷ names) bytes F
outgrows_one name names bytes F good later = subst (λ b. OnOpened b (HasNoRoom F name) (FillOutgrows names bytes (with_file F name bytes)) (max_size < length bytes)) (sym good) (inr (inl later))

pub fill_one : (names : List Name) (i : ℕ) (bytes : Bytes) (name d : Name) (F G W : FileMap) (Large : Type 0) → i < length names → name ≡ get_or names i d → is_openable name ≡ true → G ≡ with_file F name bytes → (filled (drop i names) bytes F ≡ W) × (FillOutgrows (drop i names) bytes F → Large) → (filled (drop (i + 1) names) bytes G ≡ W) × (FillOutgrows (drop (i + 1) names) bytes G → Large)
fill_one names i bytes name d F G W Large inside is good given (same, large) =
    let next : suc i ≡ i + 1 = omega arith in
    let here : drop i names ≡ name ∷ drop (i + 1) names = drop-cons names i d inside ∙ ap (λ n. n ∷ drop (suc i) names) (sym is) ∙ ap (λ k. name ∷ drop k names) next in (
      ap (filled (drop (i + 1) names) bytes) given ∙ sym (filled_one name (drop (i + 1) names) bytes F good) ∙ ap (λ ns. filled ns bytes F) (sym here) ∙ same,
      λ later. large (subst (λ ns. FillOutgrows ns bytes F) (sym here) (outgrows_one name (drop (i + 1) names) bytes F good (subst (FillOutgrows (drop (i + 1) names) bytes) given later))),
    )

-- only that file changed
pub beside_one : (names : List Name) (i : ℕ) (bytes : Bytes) (name d : Name) (F G H : FileMap) → i < length names → name ≡ get_or names i d → H ≡ with_file G name bytes → SameBeside names F G → SameBeside names F H
beside_one names i bytes name d F G H inside is given beside other fresh =
    let missed : bytes_eq other name ≡ false = elim (bytes_eq other name) as (λ b. bytes_eq other name ≡ b → b ≡ false) [
      | true ↦ λ yes. absurd (false≢true (sym fresh ∙ list_any_at (bytes_eq other) names i d inside (ap (bytes_eq other) (sym is) ∙ yes)))
      | false ↦ λ _. refl
    ] refl in
    ap (λ M. M other) given ∙ ap (λ b. cond b (Some bytes) (G other)) missed ∙ beside other fresh
