-- The numbers at work: they compute.
use Rattle.std.proofs.Common.{◌≡◌, [], ◌∷◌, refl, codes}
use Rattle.sh_tree.specs.Tree.{Tree, exec, pipe}
use Rattle.mem_files.specs.Files.{no_files}
use Rattle.tree_model.specs.FilesAhead.{sizes}
use Rattle.tree_model.specs.Bound.{tree_bytes, tree_steps}

-- echo a | cat
abbrev echo_cat : Tree
echo_cat = pipe (exec (codes "echo" ∷ codes "a" ∷ [])) (exec (codes "cat" ∷ []))

echo_cat_bytes : tree_bytes echo_cat 0 (sizes no_files) ≡ 4
echo_cat_bytes = refl

echo_cat_steps : tree_steps echo_cat 0 (sizes no_files) ≡ 34
echo_cat_steps = refl
