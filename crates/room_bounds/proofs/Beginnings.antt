-- What lines need with one line more.
use Rattle.std.proofs.Common.{◌≡◌, ℕ, ◌+◌, ◌<◌, ◌≤◌, List, [], ◌∷◌, ◌++◌, Option, None, length, get_or, take, add-one, refl, sym, ap, ◌∙◌, subst, arith}
use Rattle.std.specs.Prelude.{map, max}
use Rattle.std.proofs.Math.Nat.{le-max_left, le-max_right, max-le}
use Rattle.std.proofs.Math.Seq.{take-suc}
use Rattle.std.proofs.lemmas.List.{length-append, map-append, take-map}
use Rattle.script_load.specs.declared.line.Line.{Line}
use Rattle.script_load.specs.Line.{ScriptLine, line_of}
use Rattle.meaning_model.specs.Meaning.{line_tree, script_tree}
use Rattle.mem_files.specs.Name.{Name, Bytes}
use Rattle.mem_files.specs.Files.{files as map_of}
use Rattle.tree_model.specs.FilesAhead.{Sizes, sizes}
use Rattle.tree_model.specs.Bound.{grown, most_bytes, tree_bytes}
use Rattle.step_bounds.specs.Cost.{IsCapped as IsFew, IsGrownBy}
use Rattle.step_bounds.proofs.Growing.{grown_twice}
use Rattle.sh_tree.specs.Tree.{Tree, list}
use Rattle.room_model.specs.Processes.{most_processes}
use Rattle.room_model.specs.Entries.{most_entries}
use Rattle.room_model.specs.Descriptors.{most_descriptors}
use Rattle.room_model.specs.Files.{names_written}
use Rattle.room_bounds.specs.Capped.{IsCapped}
use Rattle.room_bounds.specs.Needs.{AreNeeds, IsWritten}
use Rattle.room_bounds.specs.declared.needs.Needs.{Needs}

-- the first lines, and the next
pub next_line : {A : _} (lines : List (Line A)) (i : ℕ) (d : Line A) → i < length lines → take (i + 1) (map line_of lines) ≡ take i (map line_of lines) ++ line_of (get_or lines i d) ∷ []
next_line lines i d inside =
    take-map line_of (i + 1) lines
    ∙ (ap (map line_of) (ap (λ j. take j lines) (add-one i) ∙ take-suc lines i d inside)
    ∙ (map-append line_of (take i lines) (get_or lines i d ∷ []) ∙ ap (λ ls. ls ++ line_of (get_or lines i d) ∷ []) (sym (take-map line_of i lines))))

swap_le : (a b c : ℕ) → max a (max b c) ≤ max b (max a c)
swap_le a b c =
    max-le (omega (arith, le-max_left a c, le-max_right b (max a c))) (max-le (le-max_left b (max a c)) (omega (arith, le-max_right a c, le-max_right b (max a c))))

swapped : (a b c : ℕ) → max a (max b c) ≡ max b (max a c)
swapped a b c = omega (arith, swap_le a b c, swap_le b a c)

module _ (line : ScriptLine) where
  abbrev tree : Tree
  tree = line_tree line

  abbrev with : List ScriptLine → Tree
  with lines = script_tree (lines ++ line ∷ [])

  processes_with : (lines : List ScriptLine) → max (1 + most_processes tree) (most_processes (script_tree lines)) ≡ most_processes (with lines)
  processes_with [] = refl
  processes_with (l ∷ lines) =
      swapped (1 + most_processes tree) (1 + most_processes (line_tree l)) (most_processes (script_tree lines)) ∙ ap (max (1 + most_processes (line_tree l))) (processes_with lines)

  entries_with : (lines : List ScriptLine) → max (most_entries tree) (most_entries (script_tree lines)) ≡ most_entries (with lines)
  entries_with [] = refl
  entries_with (l ∷ lines) = swapped (most_entries tree) (most_entries (line_tree l)) (most_entries (script_tree lines)) ∙ ap (max (most_entries (line_tree l))) (entries_with lines)

  descriptors_with : (lines : List ScriptLine) → max (most_descriptors tree) (most_descriptors (script_tree lines)) ≡ most_descriptors (with lines)
  descriptors_with [] = refl
  descriptors_with (l ∷ lines) =
      swapped (most_descriptors tree) (most_descriptors (line_tree l)) (most_descriptors (script_tree lines)) ∙ ap (max (most_descriptors (line_tree l))) (descriptors_with lines)

  names_with : (lines : List ScriptLine) → length (names_written (list tree (script_tree lines))) ≡ length (names_written (with lines))
  names_with [] = refl
  names_with (l ∷ lines) =
      omega (
        arith,
        names_with lines,
        length-append (names_written tree) (names_written (script_tree lines)),
        length-append (names_written tree) (names_written (script_tree (l ∷ lines))),
        length-append (names_written (line_tree l)) (names_written (script_tree lines)),
        length-append (names_written (line_tree l)) (names_written (with lines)),
      )

  -- one line more needs what a list of it and the others needs
  pub needs_with : (lines : List ScriptLine) (needs : Needs) → AreNeeds (list tree (script_tree lines)) needs → AreNeeds (with lines) needs
  needs_with lines needs are = record {
    processes = subst (λ n. IsCapped n needs.processes) (processes_with lines) are.processes;
    entries = subst (λ n. IsCapped n needs.entries) (entries_with lines) are.entries;
    descriptors = subst (λ n. IsCapped n needs.descriptors) (descriptors_with lines) are.descriptors;
    names = subst (λ n. IsCapped n needs.names) (names_with lines) are.names;
  }

  -- and writes so much more
  pub bytes_with : (lines : List ScriptLine) (n : ℕ) (L : Sizes) → tree_bytes (with lines) n L ≡ tree_bytes (script_tree lines) n L + tree_bytes tree n (grown L (tree_bytes (script_tree lines) n L))
  bytes_with [] n L =
      let same : grown L 0 ≡ L = λ i name. (let e : L name + 0 ≡ L name = omega arith in e) i in
      omega (arith, ap (λ (K : Sizes). tree_bytes tree n K) same)
  bytes_with (l ∷ lines) n L =
      let b = tree_bytes (line_tree l) n L in
      let later = tree_bytes (script_tree lines) n (grown L b) in
      omega (arith, bytes_with lines n (grown L b), ap (λ (K : Sizes). tree_bytes tree n K) (grown_twice L b later))

  module _ (lines : List ScriptLine) (input : Bytes) (files : List (Name × Bytes)) where
    pub written_with : (written : ℕ) (o : Option ℕ) → written ≡ most_bytes lines input (map_of files) → IsGrownBy tree (length input) files written o → IsWritten (lines ++ line ∷ []) input files o
    written_with written o is grown_by =
        subst (λ k. IsFew k o) (ap (λ k. k + tree_bytes tree (length input) (grown (sizes (map_of files)) k)) is ∙ sym (bytes_with lines (length input) (sizes (map_of files)))) grown_by

    pub too_many : IsWritten lines input files None → IsWritten (lines ++ line ∷ []) input files None
    too_many many = omega (arith, many, bytes_with lines (length input) (sizes (map_of files)))
