-- How many processes of a script there are at once at most, whatever their order: by what the shell forks (`runcmd` and `main`
-- of user/sh.c). One that has exited counts until its parent waited for it.
use Rattle.std.specs.Prelude.{ℕ, ◌+◌, max, List}
use Rattle.sh_tree.specs.Tree.{Tree, exec, redir, pipe, list, back}
use Rattle.script_load.specs.Line.{ScriptLine}
use Rattle.meaning_model.specs.Meaning.{script_tree}

-- of a command, with the process that runs it. A program takes that process over, and a redirection's body runs in it. A pipe's
-- process has a child for each side, and waits for both. A list's has one for the left side, and then runs the right side
-- itself. One before `&` has a child that it doesn't wait for
abbrev pub most_processes : Tree → ℕ
most_processes (exec words) = 1
most_processes (redir mode name body) = most_processes body
most_processes (pipe left right) = 1 + most_processes left + most_processes right
most_processes (list left right) = max (1 + most_processes left) (most_processes right)
most_processes (back body) = 1 + most_processes body

-- of a script: init, and the top shell, which runs it as one list
abbrev pub script_processes : List ScriptLine → ℕ
script_processes lines = 1 + most_processes (script_tree lines)
