-- How many open-file entries of a script are in use at once at most, whatever their order: a redirection opens one, which is used
-- while its body runs, a pipe two, which are used while a side of it runs, and a program one for each file that it holds open
-- (user/sh.c). What runs on the left of a list is over before the right side begins.
use Rattle.std.specs.Prelude.{ℕ, ◌+◌, max, List}
use Rattle.sh_tree.specs.Tree.{Tree, exec, redir, pipe, list, back}
use Rattle.script_load.specs.Line.{ScriptLine}
use Rattle.meaning_model.specs.Meaning.{script_tree}
use Rattle.room_model.specs.Descriptors.{files_of_words}

abbrev pub most_entries : Tree → ℕ
most_entries (exec words) = files_of_words words
most_entries (redir mode name body) = 1 + most_entries body
most_entries (pipe left right) = 2 + most_entries left + most_entries right
most_entries (list left right) = max (most_entries left) (most_entries right)
most_entries (back body) = most_entries body

-- of a script: the standard input, the standard output and the diagnostics have one each
abbrev pub script_entries : List ScriptLine → ℕ
script_entries lines = 3 + most_entries (script_tree lines)
