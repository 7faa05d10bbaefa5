-- How many processes a script forks in all at most, itself and through its children: a `|` forks two, a `;` and a `&` one, and each line
-- one (user/sh.c). Each is counted, whether it ends before the next one is forked or not.
use Rattle.std.specs.Prelude.{ℕ, ◌+◌, ◌≤◌, List}
use Rattle.proc_table.specs.declared.pid.TheConstants.{PROCS}
use Rattle.sh_tree.specs.Tree.{Tree, exec, redir, pipe, list, back}
use Rattle.script_load.specs.Line.{ScriptLine}
use Rattle.meaning_model.specs.Meaning.{script_tree}

abbrev pub most_forks : Tree → ℕ
most_forks (exec words) = 0
most_forks (redir mode name body) = most_forks body
most_forks (pipe left right) = 2 + most_forks left + most_forks right
most_forks (list left right) = 1 + most_forks left + most_forks right
most_forks (back body) = 1 + most_forks body

-- there are as many slots as the script ever uses, with those of init and of the shell
abbrev pub HasFewForks : List ScriptLine → Type 0
HasFewForks lines = 2 + most_forks (script_tree lines) ≤ PROCS
