-- No run of a script that keeps within its sizes has a file that was neither there nor is written by it; so it has few files.
use Rattle.std.proofs.Common.{◌≡◌, ℕ, zero, suc, ◌<◌, ◌≤◌, List, [], ◌∷◌, ◌++◌, Bool, true, false, Option, Some, None, refl, sym, ap, ◌∙◌, length-append, map, arith}
use Rattle.std.proofs.lemmas.List.{length-map}
use Rattle.std.proofs.lemmas.Map.Made.{length-le_from_is_member}
use Rattle.std.proofs.lemmas.Map.Text.{is_eq-slice_cmp}
use Rattle.std.proofs.lemmas.Slice.Eq.{bytes_eq-Decides}
use Rattle.std.specs.Prelude.{◌||◌, ◌&&◌}
use Rattle.std.specs.Cmp.{IsEquivalence}
use Rattle.std.specs.FinMap.Entries.{below_all, is_sorted}
use Rattle.std.specs.List.{AllByRecursion, IsDistinct, slice_get}
use Rattle.std.specs.Ordering.{is_eq, is_lt}
use Rattle.std.specs.declared.cmp.Ordering.{Ordering}
use Rattle.std.specs.declared.cmp.Ordering.TheVariants.{Less, Equal, Greater}
use Rattle.std.specs.Str.{bytes_eq}
use Rattle.mem_files.specs.Name.{Name, Bytes, name_cmp}
use Rattle.mem_files.specs.Files.{files}
use Rattle.mem_files.specs.Listing.{AreFiles, max_files}
use Rattle.mem_files.proofs.Listed.{listed_found, found_listed}
use Rattle.prog_parts.specs.NameSets.{among}
use Rattle.script_load.specs.Line.{ScriptLine}
use Rattle.script_load.specs.declared.profile.Profile.{Profile}
use Rattle.meaning_model.specs.Meaning.{script_tree}
use Rattle.tree_model.specs.FilesAhead.{Sizes}
use Rattle.room_model.specs.Files.{names_written, script_files}
use Rattle.kernel_model.specs.declared.events.Event.{Event}
use Rattle.kernel_model.specs.declared.events.Full.TheVariants.{Files}
use Rattle.kernel_model.specs.KernelState.{KernelState}
use Rattle.kernel_model.specs.Events.{run}
use Rattle.run_model.specs.ScriptRun.{script_kernel}
use Rattle.sh_machine.specs.declared.state.Phase.TheVariants.{Starts}
use Rattle.sh_machine.specs.State.{User, init, shell, top}
use Rattle.sh_machine.specs.Turn.{call_of, next_of}
use Rattle.law_kernel.proofs.kernel.SoundRuns.{every_run_has_files}
use Rattle.law_runs.proofs.room.FirstFull.{First, first_full}
use Rattle.room_model.specs.Sizes.{KeepsWithin}
use Rattle.law_limits.proofs.sizes.Runs.{IsNew, Holds, every_run_holds}

-- ---- names, of which no two are the same

eq_laws : IsEquivalence bytes_eq
eq_laws = record { refl = λ x. (bytes_eq-Decides x x).1 refl; symm = both; congr = λ x y z same. ap (λ n. bytes_eq n z) ((bytes_eq-Decides x y).0 same) }
  where
    both : (x y : Name) → bytes_eq x y ≡ bytes_eq y x
    both x y = by (bytes_eq x y) refl (bytes_eq y x) refl
      where
        by : (b : Bool) → bytes_eq x y ≡ b → (c : Bool) → bytes_eq y x ≡ c → bytes_eq x y ≡ bytes_eq y x
        by true is true it = is ∙ sym it
        by true is false it = is ∙ sym ((bytes_eq-Decides y x).1 (sym ((bytes_eq-Decides x y).0 is)))
        by false is true it = (bytes_eq-Decides x y).1 (sym ((bytes_eq-Decides y x).0 it)) ∙ sym it
        by false is false it = is ∙ sym it

names_of : List (Name × Bytes) → List Name
names_of list = map (λ (f : Name × Bytes). f.0) list

and_left : (b c : Bool) → (b && c) ≡ true → (b ≡ true) × (c ≡ true)
and_left true c is = (refl, is)
and_left false c is = let z : ⊥ = cc in absurd z

less_apart : (o : Ordering) → is_lt o ≡ true → is_eq o ≡ false
less_apart Less is = refl
less_apart Equal is = let z : ⊥ = cc in absurd z
less_apart Greater is = refl

below_apart : (name : Name) (list : List (Name × Bytes)) → below_all name_cmp name list ≡ true → AllByRecursion (λ y. bytes_eq name y ≡ false) (names_of list)
unfolding names_of
below_apart name [] is = tt
below_apart name (f ∷ list) is =
    let w = and_left (is_lt (name_cmp name f.0)) (below_all name_cmp name list) is in
    (sym (is_eq-slice_cmp name f.0) ∙ less_apart (name_cmp name f.0) w.0, below_apart name list w.1)

distinct : (list : List (Name × Bytes)) → is_sorted name_cmp list ≡ true → IsDistinct bytes_eq (names_of list)
unfolding IsDistinct names_of
distinct [] is = tt
distinct (f ∷ list) is = let w = and_left (below_all name_cmp f.0 list) (is_sorted name_cmp list) is in (below_apart f.0 list w.0, distinct list w.1)

-- ---- a listed name has a file

listed : (list : List (Name × Bytes)) (name : Name) → among (names_of list) name ≡ true → (i : ℕ) × ((f : Name × Bytes) × (slice_get list i ≡ Some f) × (f.0 ≡ name))
unfolding names_of
listed [] name is = let z : ⊥ = cc in absurd z
listed (f ∷ list) name is = by (bytes_eq name f.0) refl is (listed list name)
  where
    by : (b : Bool) → bytes_eq name f.0 ≡ b → (b || among (names_of list) name) ≡ true → (among (names_of list) name ≡ true → (i : ℕ) × ((f : Name × Bytes) × (slice_get list i ≡ Some f) × (f.0 ≡ name))) → (i : ℕ) × ((g : Name × Bytes) × (slice_get (f ∷ list) i ≡ Some g) × (g.0 ≡ name))
    by true here is rest = (0, (f, refl, sym ((bytes_eq-Decides name f.0).0 here)))
    by false other is rest = let w = rest is in (suc w.0, w.1)

unlisted : (list : List (Name × Bytes)) (i : ℕ) (name : Name) (bytes : Bytes) → slice_get list i ≡ Some (name, bytes) → among (names_of list) name ≡ true
unfolding names_of
unlisted [] i name bytes is = let z : ⊥ = cc in absurd z
unlisted (f ∷ list) zero name bytes is = let z : f ≡ (name, bytes) = cc in ap (λ b. b || among (names_of list) name) ((bytes_eq-Decides name f.0).1 (sym (ap (λ (g : Name × Bytes). g.0) z)))
unlisted (f ∷ list) (suc i) name bytes is = by (bytes_eq name f.0) (unlisted list i name bytes is)
  where
    by : (b : Bool) → among (names_of list) name ≡ true → (b || among (names_of list) name) ≡ true
    by true rest = refl
    by false rest = rest

among_both : (name : Name) (xs ys : List Name) → among (xs ++ ys) name ≡ false → (among xs name ≡ false) × (among ys name ≡ false)
among_both name [] ys none = (refl, none)
among_both name (x ∷ xs) ys none = by (bytes_eq name x) none (among_both name xs ys)
  where
    by : (b : Bool) → (b || among (xs ++ ys) name) ≡ false → (among (xs ++ ys) name ≡ false → (among xs name ≡ false) × (among ys name ≡ false)) → ((b || among xs name) ≡ false) × (among ys name ≡ false)
    by true none rest = let z : ⊥ = cc in absurd z
    by false none rest = rest none

-- ---- of a run

module _ (profile : Profile) (L : Sizes) (lines : List ScriptLine) (input : Bytes) (list : List (Name × Bytes)) (are : AreFiles list) (keeps : KeepsWithin lines input (files list) L) where
  module _ (f : First init (shell profile (top Starts lines)) input list Files) where
    abbrev k : KernelState User
    k = f.kernel

    holds : Holds profile L (IsNew lines list) k
    holds = every_run_holds profile L lines input list are keeps f.reached.events f.reached.notes k f.reached.runs f.clean

    kept : AreFiles k.files
    kept = every_run_has_files call_of next_of init (shell profile (top Starts lines)) input list f.reached.events f.reached.notes k are f.reached.runs

    all : List Name
    all = names_of list ++ names_written (script_tree lines)

    -- a file was there, or the script writes it
    each : (name : Name) → among (names_of k.files) name ≡ true → among all name ≡ true
    unfolding all
    each name is = by (among all name) refl
      where
        absent : among (names_of list) name ≡ false → files list name ≡ None
        absent none = at (files list name) refl
          where
            at : (o : Option Bytes) → files list name ≡ o → files list name ≡ None
            at None is = is
            at (Some bytes) is = let w = found_listed list name bytes is in let z : false ≡ true = sym none ∙ unlisted list w.0 name bytes w.1 in let x : ⊥ = cc in absurd x

        by : (b : Bool) → among all name ≡ b → among all name ≡ true
        by true some = some
        by false none =
            let w = among_both name (names_of list) (names_written (script_tree lines)) none in
            let gone : files k.files name ≡ None = holds.inv.absent name (absent w.0, w.1) in
            let at = listed k.files name is in
            let there : files k.files at.1.0.0 ≡ Some at.1.0.1 = listed_found k.files at.0 at.1.0 kept at.1.1 in
            let z : None ≡ Some at.1.0.1 = sym gone ∙ (ap (files k.files) (sym at.1.2) ∙ there) in
            let x : ⊥ = cc in absurd x

    crowded : max_files ≤ script_files lines list
    unfolding all names_of
    crowded =
        omega (
          arith,
          f.asks.lacks.many,
          length-le_from_is_member eq_laws (names_of k.files) all (distinct k.files kept.ascending) each,
          length-map k.files (λ (g : Name × Bytes). g.0),
          length-append (names_of list) (names_written (script_tree lines)),
          length-map list (λ (g : Name × Bytes). g.0),
        )

  pub file_finds_place : (es : List Event) (ns : List Bool) (m : KernelState User) → run call_of next_of (Some (script_kernel profile lines input list)) es ns ≡ Some m → script_files lines list < max_files → m.full ≡ Some Files → ⊥
  file_finds_place es ns m is few marked = omega (arith, few, crowded (first_full init (shell profile (top Starts lines)) input list Files es ns m is marked))
