-- Whether some >> is in a tree, whose meaning the profile decides.
use Rattle.std.specs.Prelude.{Bool, true, false, ◌||◌}
use Rattle.sh_tree.specs.declared.tree.Mode.{Mode}
use Rattle.sh_tree.specs.declared.tree.Mode.TheVariants.{Input, Fresh, Over}
use Rattle.sh_tree.specs.Tree.{Tree, exec, redir, pipe, list, back}

abbrev pub is_over : Mode → Bool
is_over Input = false
is_over Fresh = false
is_over Over = true

abbrev pub has_over : Tree → Bool
has_over (exec words) = false
has_over (redir mode name body) = is_over mode || has_over body
has_over (pipe left right) = has_over left || has_over right
has_over (list left right) = has_over left || has_over right
has_over (back body) = has_over body
