-- When the commands of a tree can't meet at a file, and whether some of them runs behind `&`.
use Rattle.std.specs.Prelude.{◌≡◌, ℕ, Bool, true, false, ◌||◌, List}
use Rattle.sh_tree.specs.declared.tree.Mode.{Mode}
use Rattle.sh_tree.specs.declared.tree.Mode.TheVariants.{Input, Fresh, Over}
use Rattle.sh_tree.specs.Tree.{Tree, exec, redir, pipe, list, back}
use Rattle.conflict_check.specs.Names.{names, writes}

-- some & is in the tree
abbrev pub has_back : Tree → Bool
has_back (exec words) = false
has_back (redir mode file body) = has_back body
has_back (pipe left right) = has_back left || has_back right
has_back (list left right) = has_back left || has_back right
has_back (back body) = true

-- no name that the one side writes is a name of the other
abbrev pub AreApart : Tree → Tree → Type 0
AreApart left right =
    ((name : List ℕ) → writes left name ≡ true → names right name ≡ false) ×
    ((name : List ℕ) → writes right name ≡ true → names left name ≡ false)

-- the body of a redirection names the file that this writes, or writes the file that this reads
abbrev pub is_touched : Mode → List ℕ → Tree → Bool
is_touched Input file body = writes body file
is_touched Fresh file body = names body file
is_touched Over file body = names body file

-- a clear tree: the sides of every pipe are apart, and no redirection's file is touched inside it
abbrev pub IsClear : Tree → Type 0
IsClear (exec words) = Unit {0}
IsClear (redir mode file body) = (is_touched mode file body ≡ false) × IsClear body
IsClear (pipe left right) = AreApart left right × IsClear left × IsClear right
IsClear (list left right) = IsClear left × IsClear right
IsClear (back body) = IsClear body
