-- How many processes of a script there are at once at most, whatever their order, also where a command runs behind `&`: by what the
-- shell forks and waits for (`runcmd` and `main` of user/sh.c). The process of a BACK doesn't wait for its child, which init takes
-- over; all others wait for theirs. One that has exited counts until it was waited for.
use Rattle.std.specs.Prelude.{ℕ, ◌+◌, max, List}
use Rattle.sh_tree.specs.Tree.{Tree, exec, redir, pipe, list, back}
use Rattle.script_load.specs.Line.{ScriptLine}
use Rattle.meaning_model.specs.Meaning.{script_tree}

abbrev mutual
  -- of a command, with the process that runs it and with those that it leaves behind
  pub at_once : Tree → ℕ
  at_once (exec words) = 1
  at_once (redir mode name body) = at_once body
  at_once (pipe left right) = 1 + at_once left + at_once right
  at_once (list left right) = max (1 + at_once left) (left_behind left + at_once right)
  at_once (back body) = 1 + at_once body

  -- how many of these may still be there once its own process was waited for: all that runs behind `&`
  pub left_behind : Tree → ℕ
  left_behind (exec words) = 0
  left_behind (redir mode name body) = left_behind body
  left_behind (pipe left right) = left_behind left + left_behind right
  left_behind (list left right) = left_behind left + left_behind right
  left_behind (back body) = at_once body

-- of a script: init, and the top shell, which runs it as one list
abbrev pub processes_at_once : List ScriptLine → ℕ
processes_at_once lines = 1 + at_once (script_tree lines)
