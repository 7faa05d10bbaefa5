-- The files that are left complete the table and the block of all files.
use Rattle.std.proofs.Common.{◌≡◌, ℕ, Bool, suc, ◌+◌, ◌<◌, List, [], ◌∷◌, ◌++◌, length, drop, get_or, Option, Some, sym, ◌∙◌, ap, arith, append_assoc}
use Rattle.std.specs.Prelude.{slice_get}
use Rattle.std.proofs.Math.Seq.{drop-cons}
use Rattle.std.proofs.lemmas.Option.{slice_get-get_or}
use Rattle.std.specs.Option.{option_map}
use Rattle.prog_parts.specs.NameSets.{Names}
use Rattle.mem_files.specs.Name.{Name, Bytes}
use Rattle.mem_files.specs.Files.{files}
use Rattle.mem_files.specs.Listing.{AreFiles}
use Rattle.mem_files.proofs.Listed.{listed_found}
use Rattle.embed.specs.Packing.{sizes_of_one, sizes_of, block_of}
use Rattle.embed.specs.declared.packing.FileSizes.{FileSizes}

some_same : {A : Type 0} (x y : A) → Some x ≡ Some y → x ≡ y
some_same x y same = cc

-- the file at a place, by its name and what this name holds
pub at_place : (list : List (Name × Bytes)) (i : ℕ) (name : Name) (o : Option Bytes) → AreFiles list → i < length list → Some name ≡ option_map (λ e. e.0) (slice_get list i) → o ≡ files list name → (bytes : Bytes) × (slice_get list i ≡ Some (name, bytes)) × (o ≡ Some bytes)
at_place list i name o kept inside is found =
    let e = get_or list i (name, name) in
    let here : slice_get list i ≡ Some e = slice_get-get_or list i (name, name) inside in
    let same : Some name ≡ Some e.0 = is ∙ ap (option_map (λ f. f.0)) here in
    let own : name ≡ e.0 = cc in
    (e.1, here ∙ ap (λ n. Some (n, e.1)) (sym own), found ∙ ap (files list) own ∙ listed_found list i e kept here)

module _ (list : List (Name × Bytes)) (i : ℕ) (name bytes : Bytes) (inside : i < length list) (is : slice_get list i ≡ Some (name, bytes)) where
  cut : drop i list ≡ (name, bytes) ∷ drop (i + 1) list
  cut =
      let next : suc i ≡ i + 1 = omega arith in
      let here : get_or list i (name, bytes) ≡ (name, bytes) = some_same _ _ (sym (slice_get-get_or list i (name, bytes) inside) ∙ is) in
      drop-cons list i (name, bytes) inside ∙ ap (λ f. f ∷ drop (suc i) list) here ∙ ap (λ k. (name, bytes) ∷ drop k list) next

  -- one file more in the table
  pub one_size : (soft : Names) (table new whole : List FileSizes) (marked : Bool) → marked ≡ soft name → new ≡ table ++ sizes_of_one marked name bytes ∷ [] → table ++ sizes_of soft (drop i list) ≡ whole → new ++ sizes_of soft (drop (i + 1) list) ≡ whole
  one_size soft table new whole marked marks added so_far =
      ap (λ t. t ++ sizes_of soft (drop (i + 1) list)) (added ∙ ap (λ b. table ++ sizes_of_one b name bytes ∷ []) marks)
      ∙ append_assoc table (sizes_of_one (soft name) name bytes ∷ []) (sizes_of soft (drop (i + 1) list))
      ∙ ap (λ l. table ++ sizes_of soft l) (sym cut)
      ∙ so_far

  -- one file more in the block
  pub one_block : (block new whole : Bytes) → new ≡ block ++ (name ++ bytes) → block ++ block_of (drop i list) ≡ whole → new ++ block_of (drop (i + 1) list) ≡ whole
  one_block block new whole added so_far =
      ap (λ t. t ++ block_of (drop (i + 1) list)) added
      ∙ append_assoc block (name ++ bytes) (block_of (drop (i + 1) list))
      ∙ ap (λ l. block ++ block_of l) (sym cut)
      ∙ so_far
