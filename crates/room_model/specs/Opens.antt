-- How many open-file entries a script comes to use in all at most: a redirection opens one, a pipe two, and a program one for each
-- file that it names (user/sh.c, and the programs). Each is counted, whether it is closed before the next one is opened or not.
use Rattle.std.specs.Prelude.{ℕ, ◌+◌, ◌≤◌, List, length}
use Rattle.fd_table.specs.declared.entries.TheConstants.{ENTRIES}
use Rattle.sh_tree.specs.Tree.{Tree, exec, redir, pipe, list, back}
use Rattle.prog_parts.specs.Words.{words_files}
use Rattle.script_load.specs.Line.{ScriptLine}
use Rattle.meaning_model.specs.Meaning.{script_tree}

abbrev pub most_opens : Tree → ℕ
most_opens (exec words) = length (words_files words)
most_opens (redir mode name body) = 1 + most_opens body
most_opens (pipe left right) = 2 + most_opens left + most_opens right
most_opens (list left right) = most_opens left + most_opens right
most_opens (back body) = most_opens body

-- there are as many entries as the script ever uses, with those of the standard input, the standard output and the diagnostics
abbrev pub HasFewOpens : List ScriptLine → Type 0
HasFewOpens lines = 3 + most_opens (script_tree lines) ≤ ENTRIES
