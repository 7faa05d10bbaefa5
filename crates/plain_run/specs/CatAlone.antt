-- `cat` without files, which passes all of its input on.
use Rattle.std.specs.Prelude.{[], ◌∷◌, codes}
use Rattle.sh_tree.specs.Tree.{Tree, exec}

abbrev pub cat_alone : Tree
cat_alone = exec (codes "cat" ∷ [])
