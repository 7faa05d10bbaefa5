-- How many files there are at most once a script has run.
use Rattle.std.specs.Prelude.{ℕ, ◌+◌, List, ◌∷◌, ◌++◌, length}
use Rattle.sh_tree.specs.declared.tree.Mode.{Mode}
use Rattle.sh_tree.specs.declared.tree.Mode.TheVariants.{Input, Fresh, Over}
use Rattle.sh_tree.specs.Tree.{Tree, exec, redir, pipe, list, back}
use Rattle.mem_files.specs.Name.{Name, Bytes}
use Rattle.prog_parts.specs.Words.{words_files_written}
use Rattle.script_load.specs.Line.{ScriptLine}
use Rattle.meaning_model.specs.Meaning.{script_tree}

-- the names that a tree writes, each as often as it stands there: those under > and >>, and the file words of tee
abbrev pub and_written : Mode → Name → List Name → List Name
and_written Input name names = names
and_written Fresh name names = name ∷ names
and_written Over name names = name ∷ names

abbrev pub names_written : Tree → List Name
names_written (exec words) = words_files_written words
names_written (redir mode name body) = and_written mode name (names_written body)
names_written (pipe left right) = names_written left ++ names_written right
names_written (list left right) = names_written left ++ names_written right
names_written (back body) = names_written body

-- the files that are there, and one for each name that the script writes
abbrev pub script_files : List ScriptLine → List (Name × Bytes) → ℕ
script_files lines files = length files + length (names_written (script_tree lines))
