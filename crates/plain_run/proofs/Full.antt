-- A full list of files has a file under as many different names as there can be files.
use Rattle.std.proofs.Common.{◌≡◌, ◌≢◌, ℕ, ◌<◌, ◌≤◌, List, length, get_or, true, false, Some, None, sym, ◌∙◌, ap, subst, arith}
use Rattle.std.specs.Prelude.{map}
use Rattle.std.specs.declared.cmp.Ordering.TheVariants.{Less}
use Rattle.std.specs.Ordering.{is_eq}
use Rattle.std.proofs.lemmas.List.{get_or-map, length-map}
use Rattle.std.proofs.lemmas.Option.{slice_get-get_or}
use Rattle.std.proofs.lemmas.Map.Text.{is_eq-slice_cmp}
use Rattle.std.proofs.lemmas.Slice.Eq.{bytes_eq-Decides}
use Rattle.mem_files.specs.Name.{Name, Bytes, name_cmp}
use Rattle.mem_files.specs.Files.{FileMap, files}
use Rattle.mem_files.specs.Listing.{AreFiles, IsFullFor, max_files}
use Rattle.mem_files.proofs.Listed.{ascends, listed_found}
use Rattle.meaning_model.specs.Limits.{AreAllFiles, HasNoRoom}

-- no name is below itself
below_other : (low high : Name) → name_cmp low high ≡ Less → low ≢ high
below_other low high below same =
    let itself : name_cmp low low ≡ Less = ap (name_cmp low) same ∙ below in
    let equal : is_eq (name_cmp low low) ≡ true = is_eq-slice_cmp low low ∙ (bytes_eq-Decides low low).1 (λ _. low) in
    let both : false ≡ true = sym (ap is_eq itself) ∙ equal in
    cc

none_some : (b : Bytes) (o : FileMap) (n : Name) → o n ≡ Some b → o n ≢ None
none_some b o n is none = let e : Some b ≡ None = sym is ∙ none in cc

-- the name at a place
name_get : (list : List (Name × Bytes)) (k : ℕ) (d : Name) → k < length list → get_or (map (λ e. e.0) list) k d ≡ (get_or list k (d, d)).0
name_get list k d inside = get_or-map (λ e. e.0) list k (d, d) d inside

pub all_files : (list : List (Name × Bytes)) → AreFiles list → max_files ≤ length list → AreAllFiles (files list)
all_files list kept many = record {
  names = map (λ e. e.0) list;
  different = λ i j d before inside same.
      let long : j < length list = omega (arith, length-map list (λ e. e.0)) in
      let below = ascends list i j (get_or list i (d, d)) (get_or list j (d, d)) kept.ascending before (slice_get-get_or list i (d, d) (omega arith)) (slice_get-get_or list j (d, d) long) in
      below_other (get_or list i (d, d)).0 (get_or list j (d, d)).0 below (sym (name_get list i d (omega arith)) ∙ same ∙ name_get list j d long);
  each = λ k d inside.
      let long : k < length list = omega (arith, length-map list (λ e. e.0)) in
      let is = listed_found list k (get_or list k (d, d)) kept (slice_get-get_or list k (d, d) long) in
      subst (λ name. files list name ≢ None) (sym (name_get list k d long)) (none_some (get_or list k (d, d)).1 (files list) (get_or list k (d, d)).0 is);
  many = subst (λ n. max_files ≤ n) (sym (length-map list (λ e. e.0))) many;
}

pub no_room : (list : List (Name × Bytes)) (name : Name) → AreFiles list → IsFullFor list name → HasNoRoom (files list) name
no_room list name kept full = (full.0, all_files list kept full.1)
