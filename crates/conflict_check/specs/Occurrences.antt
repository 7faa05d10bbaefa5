-- The names of a tree as lists, in the tree's order: a redirection's own name before its body's, a left side before its right side, and the words of a simple command as the text has them.
use Rattle.std.specs.Prelude.{ℕ, Bool, ◌||◌, List, [], ◌∷◌, ◌++◌}
use Rattle.std.specs.List.{list_any}
use Rattle.sh_tree.specs.declared.tree.Mode.{Mode}
use Rattle.sh_tree.specs.declared.tree.Mode.TheVariants.{Input, Fresh, Over}
use Rattle.sh_tree.specs.Tree.{Tree, exec, redir, pipe, list, back}
use Rattle.prog_parts.specs.Words.{words_files, words_files_written}
use Rattle.conflict_check.specs.Names.{names}

-- every place where a tree names a file, with that name
abbrev pub occurrences : Tree → List (List ℕ)
occurrences (exec words) = words_files words
occurrences (redir mode file body) = file ∷ occurrences body
occurrences (pipe left right) = occurrences left ++ occurrences right
occurrences (list left right) = occurrences left ++ occurrences right
occurrences (back body) = occurrences body

abbrev pub file_written : Mode → List ℕ → List (List ℕ)
file_written Input file = []
file_written Fresh file = file ∷ []
file_written Over file = file ∷ []

-- those of them where it writes
abbrev pub written : Tree → List (List ℕ)
written (exec words) = words_files_written words
written (redir mode file body) = file_written mode file ++ written body
written (pipe left right) = written left ++ written right
written (list left right) = written left ++ written right
written (back body) = written body

-- one of two trees writes, at one of its places, a name of the other
abbrev pub share_a_name : Tree → Tree → Bool
share_a_name left right = list_any (names right) (written left) || list_any (names left) (written right)
