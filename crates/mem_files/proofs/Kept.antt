-- What holds of the list of every set of files stays, and when it does.
use Rattle.std.proofs.Common.{◌≡◌, ℕ, ◌<◌, ◌≤◌, ◌+◌, true, false, cond, List, length, Option, Some, None, IfSome, is_some, get_or, set, refl, sym, ap, subst, ◌∙◌, arith}
use Rattle.std.specs.List.{insert}
use Rattle.std.specs.Str.{bytes_eq}
use Rattle.std.proofs.lemmas.Bool.{false≢true}
use Rattle.std.proofs.lemmas.Slice.Eq.{bytes_eq-Decides}
use Rattle.mem_files.specs.Name.{Name, Bytes, is_openable}
use Rattle.mem_files.specs.Files.{files, with_file}
use Rattle.mem_files.specs.Listing.{with_entry, count_with, AreFiles, max_files, max_size}
use Rattle.mem_files.specs.Place.{place, StandsAt}
use Rattle.mem_files.proofs.Places.{files-with_entry, length-with_entry, ascending-with_entry, holds_changed, found_bytes, holds_added}

-- at the name itself, and at any other
pub at_name : (F : Name → Option Bytes) (name : Name) (bytes : Bytes) → with_file F name bytes name ≡ Some bytes
at_name F name bytes = ap (λ b. cond b (Some bytes) (F name)) ((bytes_eq-Decides name name).1 refl)

-- a file of a name that can be opened
openable_file : (list : List (Name × Bytes)) (name : Name) (bytes : Bytes) → AreFiles list → files list name ≡ Some bytes → is_openable name ≡ true
openable_file list name bytes kept is =
    elim (is_openable name) as (λ b. is_openable name ≡ b → b ≡ true) [
      | true ↦ λ _. refl
      | false ↦ λ bad. absurd (none_some bytes (sym (kept.openable name bad) ∙ is))
    ] refl
  where
    none_some : (b : Bytes) → None ≡ Some b → ⊥
    none_some b e = cc

-- a file isn't too large
pub small_file : (list : List (Name × Bytes)) (name : Name) (bytes : Bytes) → AreFiles list → files list name ≡ Some bytes → length bytes ≤ max_size
small_file list name bytes kept is = subst (λ (o : Option Bytes). IfSome o (λ b. length b ≤ max_size)) is (kept.small name)

-- a file of a good name and size, where there is room for it
pub AreFiles-with_entry : (list : List (Name × Bytes)) (name : Name) (bytes : Bytes) → AreFiles list → is_openable name ≡ true → length bytes ≤ max_size → count_with list name ≤ max_files → AreFiles (with_entry list name bytes)
AreFiles-with_entry list name bytes kept good size room = record {
  ascending = ascending-with_entry list name bytes kept.ascending;
  few = subst (λ n. n ≤ max_files) (sym (length-with_entry list name bytes kept.ascending)) room;
  openable = λ n bad. files-with_entry list name bytes n ∙ elim (bytes_eq n name) as (λ b. bytes_eq n name ≡ b → cond b (Some bytes) (files list n) ≡ None) [
    | true ↦ λ e. absurd (false≢true (sym bad ∙ ap is_openable ((bytes_eq-Decides n name).0 e) ∙ good))
    | false ↦ λ e. kept.openable n bad
  ] refl;
  small = λ n. subst (λ (o : Option Bytes). IfSome o (λ b. length b ≤ max_size)) (sym (files-with_entry list name bytes n)) (elim (bytes_eq n name) as (λ b. IfSome (cond b (Some bytes) (files list n)) (λ b. length b ≤ max_size)) [
    | true ↦ size
    | false ↦ kept.small n
  ]);
}

-- one more file, of a new name
pub AreFiles-added : (list : List (Name × Bytes)) (name : Name) (bytes : Bytes) → AreFiles list → is_openable name ≡ true → length bytes ≤ max_size → files list name ≡ None → length list < max_files → AreFiles (with_entry list name bytes)
AreFiles-added list name bytes kept good size new room =
    AreFiles-with_entry list name bytes kept good size (subst (λ (o : Option Bytes). cond (is_some o) (length list) (length list + 1) ≤ max_files) (sym new) (omega arith))

-- other bytes for a file that is there
pub AreFiles-changed : (list : List (Name × Bytes)) (name : Name) (old bytes : Bytes) → AreFiles list → files list name ≡ Some old → length bytes ≤ max_size → AreFiles (with_entry list name bytes)
AreFiles-changed list name old bytes kept is size =
    AreFiles-with_entry list name bytes kept (openable_file list name old kept is) size (subst (λ (o : Option Bytes). cond (is_some o) (length list) (length list + 1) ≤ max_files) (sym is) kept.few)

-- d is the file that stands at the place of a name, and was given bytes
pub kept_changed : (list : List (Name × Bytes)) (name : Name) (at : ℕ) (d new : Name × Bytes) (bytes : Bytes) → AreFiles list → StandsAt list name at → d ≡ get_or list at d → new ≡ (d.0, bytes) → length bytes ≤ max_size → AreFiles (set list at new)
kept_changed list name at d new bytes kept s is given size =
    subst AreFiles (sym (holds_changed list list name at d kept.ascending refl s is new bytes given).entry)
    (AreFiles-changed list name d.1 bytes kept (found_bytes list list name at d kept.ascending refl s is) size)

-- a new file e was put in at the place of its name, where there was room
pub kept_added : (list new : List (Name × Bytes)) (name : Name) (bytes : Bytes) (at : ℕ) (e : Name × Bytes) → AreFiles list → files list name ≡ None → at ≡ place list name → e ≡ (name, bytes) → new ≡ insert list at e → is_openable name ≡ true → length bytes ≤ max_size → length list < max_files → AreFiles new
kept_added list new name bytes at e kept none here made is good size room =
    subst AreFiles (sym (holds_added list list new name bytes at e kept.ascending refl none here made is).entry)
    (AreFiles-added list name bytes kept good size none room)
