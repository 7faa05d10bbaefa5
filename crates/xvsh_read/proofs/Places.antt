-- The files that are left complete the list of all files.
use Rattle.std.proofs.Common.{◌≡◌, ℕ, Bool, suc, ◌+◌, ◌<◌, ◌≤◌, List, ◌∷◌, ◌++◌, length, drop, get_or, Option, Some, sym, ◌∙◌, ap, arith, append_assoc}
use Rattle.std.specs.Prelude.{slice_get}
use Rattle.std.proofs.Math.Seq.{drop-cons}
use Rattle.std.proofs.lemmas.List.{append-nil, drop_all}
use Rattle.std.proofs.lemmas.Option.{slice_get-get_or}
use Rattle.std.specs.Option.{option_map}
use Rattle.prog_parts.specs.NameSets.{Names}
use Rattle.mem_files.specs.Name.{Name, Bytes}
use Rattle.mem_files.specs.Files.{files}
use Rattle.mem_files.specs.Listing.{AreFiles}
use Rattle.mem_files.proofs.Listed.{listed_found}
use Rattle.xvsh_read.specs.Listing.{file_text, list_text}

some_same : (x y : Name × Bytes) → Some x ≡ Some y → x ≡ y
some_same x y same = cc

-- the file at a place, by its name and what this name holds
pub at_place : (list : List (Name × Bytes)) (i : ℕ) (name : Name) (o : Option Bytes) → AreFiles list → i < length list → Some name ≡ option_map (λ e. e.0) (slice_get list i) → o ≡ files list name → (bytes : Bytes) × (slice_get list i ≡ Some (name, bytes)) × (o ≡ Some bytes)
at_place list i name o kept inside is found =
    let e = get_or list i (name, name) in
    let here : slice_get list i ≡ Some e = slice_get-get_or list i (name, name) inside in
    let same : Some name ≡ Some e.0 = is ∙ ap (option_map (λ f. f.0)) here in
    let own : name ≡ e.0 = cc in
    (e.1, here ∙ ap (λ n. Some (n, e.1)) (sym own), found ∙ ap (files list) own ∙ listed_found list i e kept here)

-- one file more
pub one_file : (soft : Names) (list : List (Name × Bytes)) (i : ℕ) (name bytes text new whole : Bytes) (marked : Bool) → marked ≡ soft name → i < length list → slice_get list i ≡ Some (name, bytes) → new ≡ text ++ file_text marked name bytes → text ++ list_text soft (drop i list) ≡ whole → new ++ list_text soft (drop (i + 1) list) ≡ whole
one_file soft list i name bytes text new whole marked marks inside is added so_far =
    let next : suc i ≡ i + 1 = omega arith in
    let here : get_or list i (name, bytes) ≡ (name, bytes) = some_same _ _ (sym (slice_get-get_or list i (name, bytes) inside) ∙ is) in
    let cut : drop i list ≡ (name, bytes) ∷ drop (i + 1) list = drop-cons list i (name, bytes) inside ∙ ap (λ f. f ∷ drop (suc i) list) here ∙ ap (λ k. (name, bytes) ∷ drop k list) next in
    ap (λ t. t ++ list_text soft (drop (i + 1) list)) (added ∙ ap (λ b. text ++ file_text b name bytes) marks)
    ∙ append_assoc text (file_text (soft name) name bytes) (list_text soft (drop (i + 1) list))
    ∙ ap (λ l. text ++ list_text soft l) (sym cut)
    ∙ so_far

pub all_files : (soft : Names) (list : List (Name × Bytes)) (i : ℕ) (text whole : Bytes) → length list ≤ i → text ++ list_text soft (drop i list) ≡ whole → text ≡ whole
all_files soft list i text whole past so_far = sym (ap (λ l. text ++ list_text soft l) (drop_all i list past) ∙ append-nil text) ∙ so_far
