-- No run of a clear script within the bound on files has as many files as there can be.
use Rattle.std.proofs.Common.{◌≡◌, ◌≢◌, ◌⊎◌, inl, inr, ℕ, zero, suc, ◌+◌, ◌<◌, ◌≤◌, List, [], ◌∷◌, ◌++◌, Bool, true, false, Option, Some, None, refl, sym, ap, ◌∙◌, subst, length, length-append, map, get_or, arith}
use Rattle.std.proofs.lemmas.List.{length-map}
use Rattle.std.proofs.lemmas.Slice.Eq.{bytes_eq-Decides}
use Rattle.std.proofs.lemmas.Bool.{cases_lt}
use Rattle.std.specs.Prelude.{◌||◌}
use Rattle.std.specs.List.{slice_get}
use Rattle.std.specs.Str.{bytes_eq}
use Rattle.std.proofs.lemmas.Map.Text.{is_eq-slice_cmp}
use Rattle.std.specs.Ordering.{is_eq}
use Rattle.std.specs.declared.cmp.Ordering.TheVariants.{Less}
use Rattle.sh_tree.specs.declared.tree.Mode.TheVariants.{Input, Fresh, Over}
use Rattle.sh_tree.specs.Tree.{Tree, exec, redir, pipe, list, back}
use Rattle.mem_files.specs.Name.{Name, Bytes, name_cmp}
use Rattle.mem_files.specs.Files.{FileMap}
use Rattle.mem_files.specs.Listing.{AreFiles, max_files}
use Rattle.mem_files.proofs.Listed.{listed_found, found_listed, ascends}
use Rattle.prog_parts.specs.NameSets.{among}
use Rattle.conflict_check.specs.Names.{writes}
use Rattle.script_load.specs.Line.{ScriptLine}
use Rattle.script_load.specs.declared.profile.Profile.{Profile}
use Rattle.meaning_model.specs.Meaning.{script_tree}
use Rattle.tree_model.specs.Tame.{Among}
use Rattle.tree_model.specs.Residual.{Residual, left_writes}
use Rattle.tree_model.specs.Rules.{Label, silent, takes, meets_end, puts, refused, Steps, IsMet}
use Rattle.tree_model.specs.Step.{Move}
use Rattle.tree_model.specs.Tidy.{IsTidy, IsClearScript}
use Rattle.tree_model.specs.Runs.{Stage, Reaches, reached, goes_on}
use Rattle.law_trees.proofs.trees.Chosen.{chosen}
use Rattle.law_trees.proofs.trees.Smaller.{Smaller, smaller}
use Rattle.law_trees.proofs.trees.Progress.{after, IsSound, sound_next}
use Rattle.room_model.specs.Files.{names_written, script_files}
use Rattle.law_runs.proofs.standing.Reaching.{reach}
use Rattle.kernel_model.specs.declared.events.Event.{Event}
use Rattle.kernel_model.specs.declared.events.Full.TheVariants.{Files}
use Rattle.kernel_model.specs.KernelState.{KernelState}
use Rattle.kernel_model.specs.Events.{run}
use Rattle.run_model.specs.ScriptRun.{script_kernel}
use Rattle.sh_machine.specs.State.{User}
use Rattle.sh_machine.specs.Turn.{call_of, next_of}
use Rattle.law_runs.proofs.room.Counting.{total_some}
use Rattle.law_runs.proofs.room.Injected.{below, is_below, coded_few, place, get_any}
use Rattle.law_runs.proofs.room.AtCalls.{Filled, filled}

-- ---- only what the script writes changes

module _ (profile : Profile) where
  writes_with : {X X' : Residual} {F G : FileMap} {l : Label} (i : Bytes) → Steps profile X F l X' G → IsMet l true true i → IsTidy X F → (n : Name) → left_writes X n ≡ false → left_writes X' n ≡ false
  writes_with {X} {X'} {F} {G} {l} i s met tidy n none =
      let a = chosen profile true true i s met in
      (subst (λ (m : Move Residual). Smaller m.next X) a.1 (smaller profile X a.0 true true i F tidy)).writes n none

  next_writes : {X X' : Residual} {F G : FileMap} (l : Label) → Steps profile X F l X' G → IsTidy X F → (n : Name) → left_writes X n ≡ false → left_writes X' n ≡ false
  next_writes silent s tidy = writes_with [] s tt tidy
  next_writes (takes bytes) s tidy = writes_with bytes s ([], sym (Rattle.std.proofs.Common.append-nil bytes)) tidy
  next_writes meets_end s tidy = writes_with [] s (refl, refl) tidy
  next_writes (puts bytes) s tidy = writes_with [] s tt tidy
  next_writes refused s tidy = writes_with [] s refl tidy

  unwritten : {x z : Stage} → Reaches profile x z → IsSound profile x → (n : Name) → left_writes x.left n ≡ false → z.files n ≡ x.files n
  unwritten reached h n none = refl
  unwritten (goes_on {stage = x} {next = y} g r) h n none =
      unwritten r (sound_next profile x y g h) n (next_writes g.label g.steps h.0 n none) ∙ (after profile g.label g.steps h.0).only n none

-- ---- the names that it writes

either_true : (a b : Bool) → (a || b) ≡ true → (a ≡ true) ⊎ (b ≡ true)
either_true true b is = inl refl
either_true false b is = inr is

among_list : (words : List Name) (name : Name) → among words name ≡ true → Among name words
among_list [] name is = absurd (let z : ⊥ = cc in z)
among_list (word ∷ words) name is = by (either_true (bytes_eq name word) (among words name) is) (among_list words name)
  where
    by : (bytes_eq name word ≡ true) ⊎ (among words name ≡ true) → (among words name ≡ true → Among name words) → Among name (word ∷ words)
    by (inl here) rest = inl ((bytes_eq-Decides name word).0 here)
    by (inr later) rest = inr (rest later)

among_left : {X : Type 0} (x : X) (xs ys : List X) → Among x xs → Among x (xs ++ ys)
among_left x [] ys here = absurd here
among_left x (y ∷ xs) ys (inl is) = inl is
among_left x (y ∷ xs) ys (inr rest) = inr (among_left x xs ys rest)

among_right : {X : Type 0} (x : X) (xs ys : List X) → Among x ys → Among x (xs ++ ys)
among_right x [] ys here = here
among_right x (y ∷ xs) ys here = inr (among_right x xs ys here)

written : (tree : Tree) (name : Name) → writes tree name ≡ true → Among name (names_written tree)
written (exec words) name is = among_list _ name is
written (redir Input file body) name is = written body name is
written (redir Fresh file body) name is = by (either_true (bytes_eq name file) (writes body name) is) (written body name)
  where
    by : (bytes_eq name file ≡ true) ⊎ (writes body name ≡ true) → (writes body name ≡ true → Among name (names_written body)) → Among name (file ∷ names_written body)
    by (inl here) rest = inl ((bytes_eq-Decides name file).0 here)
    by (inr later) rest = inr (rest later)
written (redir Over file body) name is = by (either_true (bytes_eq name file) (writes body name) is) (written body name)
  where
    by : (bytes_eq name file ≡ true) ⊎ (writes body name ≡ true) → (writes body name ≡ true → Among name (names_written body)) → Among name (file ∷ names_written body)
    by (inl here) rest = inl ((bytes_eq-Decides name file).0 here)
    by (inr later) rest = inr (rest later)
written (pipe l r) name is = by (either_true (writes l name) (writes r name) is) (written l name) (written r name)
  where
    by : (writes l name ≡ true) ⊎ (writes r name ≡ true) → (writes l name ≡ true → Among name (names_written l)) → (writes r name ≡ true → Among name (names_written r)) → Among name (names_written l ++ names_written r)
    by (inl first) left right = among_left name (names_written l) (names_written r) (left first)
    by (inr second) left right = among_right name (names_written l) (names_written r) (right second)
written (list l r) name is = by (either_true (writes l name) (writes r name) is) (written l name) (written r name)
  where
    by : (writes l name ≡ true) ⊎ (writes r name ≡ true) → (writes l name ≡ true → Among name (names_written l)) → (writes r name ≡ true → Among name (names_written r)) → Among name (names_written l ++ names_written r)
    by (inl first) left right = among_left name (names_written l) (names_written r) (left first)
    by (inr second) left right = among_right name (names_written l) (names_written r) (right second)
written (back body) name is = written body name is

-- ---- each file has a place of its own among these names

not_less : (n : Name) → name_cmp n n ≡ Less → ⊥
not_less n less = let z : true ≡ false = sym ((bytes_eq-Decides n n).1 refl) ∙ (sym (is_eq-slice_cmp n n) ∙ ap is_eq less) in let w : ⊥ = cc in w

there : (K : List (Name × Bytes)) (i : ℕ) → i < length K → (f : Name × Bytes) × (slice_get K i ≡ Some f)
there [] i few = absurd (omega (arith, few))
there (f ∷ K) zero few = (f, refl)
there (f ∷ K) (suc i) few = there K i (omega (arith, few))

module _ (K : List (Name × Bytes)) (are : AreFiles K) (xs : List Name) (each : (i : ℕ) (f : Name × Bytes) → slice_get K i ≡ Some f → Among f.0 xs) where
  -- no two files have one name
  apart : (i j : ℕ) (f g : Name × Bytes) → slice_get K i ≡ Some f → slice_get K j ≡ Some g → f.0 ≡ g.0 → i < j → ⊥
  apart i j f g at too is low = not_less g.0 (ap (λ n. name_cmp n g.0) (sym is) ∙ ascends K i j f g are.ascending low at too)

  abbrev code_by : (i : ℕ) (o : Option (Name × Bytes)) → slice_get K i ≡ o → ℕ
  code_by i None is = length xs
  code_by i (Some f) is = (place f.0 xs (each i f is)).0

  abbrev code : ℕ → ℕ
  code i = code_by i (slice_get K i) refl

  coded : (i j : ℕ) (o u : Option (Name × Bytes)) (is : slice_get K i ≡ o) (it : slice_get K j ≡ u) → code_by i o is < length xs → code_by i o is ≡ code_by j u it → i ≡ j
  coded i j None u is it few also = absurd (omega (arith, few))
  coded i j (Some f) None is it few also = absurd (omega (arith, few, also))
  coded i j (Some f) (Some g) is it few also =
      let p = place f.0 xs (each i f is) in
      let q = place g.0 xs (each j g it) in
      let z : f.0 ≡ g.0 = sym p.2 ∙ (get_any xs p.0 f.0 g.0 p.1 ∙ (ap (λ n. get_or xs n g.0) also ∙ q.2)) in
      by (cases_lt i j) (cases_lt j i) z
    where
      by : (i < j) ⊎ (j ≤ i) → (j < i) ⊎ (i ≤ j) → f.0 ≡ g.0 → i ≡ j
      by (inl low) cases z = absurd (apart i j f g is it z low)
      by (inr above) (inl high) z = absurd (apart j i g f it is (sym z) high)
      by (inr above) (inr below) z = omega (arith, above, below)

  placed : (i : ℕ) (o : Option (Name × Bytes)) (is : slice_get K i ≡ o) → ((f : Name × Bytes) × (o ≡ Some f)) → 1 ≤ below (length xs) (code_by i o is)
  placed i None is f = absurd (let w = f.1 in let z : ⊥ = cc in z)
  placed i (Some f) is g = is_below (length xs) (place f.0 xs (each i f is)).0 (place f.0 xs (each i f is)).1

  few_files : length K ≤ length xs
  few_files =
      omega (
        arith,
        total_some (λ i. below (length xs) (code i)) 0 (length K) (λ i low high. placed i (slice_get K i) refl (there K i (omega (arith, high)))),
        coded_few code (length xs) (λ i j. coded i j (slice_get K i) (slice_get K j) refl refl) 0 (length K),
      )

-- ---- of a run

listed_among : (all : List (Name × Bytes)) (i : ℕ) (f : Name × Bytes) → slice_get all i ≡ Some f → Among f.0 (map (λ (g : Name × Bytes). g.0) all)
listed_among [] i f is = absurd (let z : ⊥ = cc in z)
listed_among (g ∷ all) zero f is = let z : g ≡ f = cc in inl (ap (λ (h : Name × Bytes). h.0) (sym z))
listed_among (g ∷ all) (suc i) f is = inr (listed_among all i f is)

module _ (profile : Profile) (lines : List ScriptLine) (input : Bytes) (list : List (Name × Bytes)) (are : AreFiles list) (clear : IsClearScript lines) where
  module _ (f : Filled profile lines input list Files) where
    abbrev k : KernelState User
    k = f.kernel

    abbrev names : List Name
    names = map (λ (g : Name × Bytes). g.0) list ++ names_written (script_tree lines)

    -- a file was there, or the script writes it
    each : (i : ℕ) (g : Name × Bytes) → slice_get k.files i ≡ Some g → Among g.0 names
    each i g is = by (writes (script_tree lines) g.0) refl
      where
        by : (b : Bool) → writes (script_tree lines) g.0 ≡ b → Among g.0 names
        by true some = among_right g.0 (map (λ (g : Name × Bytes). g.0) list) (names_written (script_tree lines)) (written (script_tree lines) g.0 some)
        by false none =
            let same = unwritten profile (reach profile f.way.way) ((clear.clear, clear.short), clear.no_back) g.0 none in
            let at = found_listed list g.0 g.1 (sym same ∙ listed_found k.files i g f.kept is) in
            among_left g.0 (map (λ (g : Name × Bytes). g.0) list) (names_written (script_tree lines)) (listed_among list at.0 (g.0, g.1) at.1)

    crowded : max_files ≤ script_files lines list
    crowded =
        omega (
          arith,
          f.asks.lacks.many,
          few_files k.files f.kept names each,
          length-append (map (λ (g : Name × Bytes). g.0) list) (names_written (script_tree lines)),
          length-map list (λ (g : Name × Bytes). g.0),
        )

  pub file_finds_place : (es : List Event) (ns : List Bool) (m : KernelState User) → run call_of next_of (Some (script_kernel profile lines input list)) es ns ≡ Some m → script_files lines list < max_files → m.full ≡ Some Files → ⊥
  file_finds_place es ns m is few marked = omega (arith, few, crowded (filled profile lines input list are clear.no_back es ns m Files is marked))
