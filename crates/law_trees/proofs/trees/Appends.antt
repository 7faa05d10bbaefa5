-- Two commands that append to one file, in the profile in which >> appends: in no order of their steps a byte is lost.
use Rattle.std.proofs.Common.{◌≡◌, Bool, true, List, [], ◌∷◌, ◌++◌, Some, refl, codes}
use Rattle.std.specs.Prelude.{◌||◌}
use Rattle.std.specs.Str.{bytes_eq}
use Rattle.sh_tree.specs.declared.tree.Mode.TheVariants.{Over}
use Rattle.sh_tree.specs.Tree.{Tree, exec, redir, pipe}
use Rattle.mem_files.specs.Name.{Bytes}
use Rattle.mem_files.specs.Files.{no_files, bytes_of}
use Rattle.script_load.specs.declared.profile.Profile.TheVariants.{Xv6, Append}
use Rattle.tree_model.specs.Step.{Choice, here, on_left, on_right}
use Rattle.tree_model.specs.Runs.{Stage, after_steps, first_stage}
use Rattle.law_trees.proofs.trees.Orders.{all_end}

-- echo a >> f | echo b >> f
abbrev adds : Bytes → Tree
adds word = redir Over (codes "f") (exec (codes "echo" ∷ word ∷ []))

abbrev both_add : Tree
both_add = pipe (adds (codes "a")) (adds (codes "b"))

-- both have the file open, and then each writes its word and its newline and ends
abbrev opening : (Choice → Choice) → List Choice
opening side = side (here 0) ∷ side (here 0) ∷ side (on_left (here 0)) ∷ side (on_left (here 0)) ∷ []

abbrev all_open : List Choice
all_open = here 0 ∷ (opening on_left ++ opening on_right)

abbrev writing : (Choice → Choice) → List Choice
writing side = side (on_left (here 9)) ∷ side (on_left (here 9)) ∷ side (on_left (here 0)) ∷ side (here 0) ∷ []

abbrev a_first : Stage
a_first = after_steps Append (all_open ++ writing on_left ++ writing on_right ++ (here 0 ∷ [])) (first_stage both_add [] no_files)

a_then_b : a_first.files (codes "f") ≡ Some (codes "a\nb\n")
a_then_b = refl

abbrev b_first : Stage
b_first = after_steps Append (all_open ++ writing on_right ++ writing on_left ++ (here 0 ∷ [])) (first_stage both_add [] no_files)

b_then_a : b_first.files (codes "f") ≡ Some (codes "b\na\n")
b_then_a = refl

-- whatever the order of all their steps, the file holds both words and both newlines
abbrev is_whole : Bytes → Bool
is_whole held = bytes_eq held (codes "a\nb\n") || bytes_eq held (codes "b\na\n") || bytes_eq held (codes "ab\n\n") || bytes_eq held (codes "ba\n\n")

none_lost : all_end Append (λ last. is_whole (bytes_of (last.files (codes "f")))) 20 (first_stage both_add [] no_files) ≡ true
none_lost = refl

-- in xv6's profile the second writes over what the first wrote
over_each_other : (after_steps Xv6 (all_open ++ writing on_left ++ writing on_right ++ (here 0 ∷ [])) (first_stage both_add [] no_files)).files (codes "f") ≡ Some (codes "b\n")
over_each_other = refl
