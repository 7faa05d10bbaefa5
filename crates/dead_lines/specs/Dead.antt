-- The lines of a script that are no command, and those that do nothing (own).
use Rattle.std.specs.Prelude.{ℕ, ◌+◌, Bool, true, false, ◌||◌, is_none, List, [], ◌∷◌, ◌++◌}
use Rattle.prog_parts.specs.Program.{program_of}
use Rattle.sh_tree.specs.Tree.{Tree, exec, redir, pipe, list, back}
use Rattle.script_load.specs.Line.{ScriptLine, command, bad, cd}

-- whether a line is no command; one of blanks is a command without words
abbrev pub is_bad : ScriptLine → Bool
is_bad (command tree) = false
is_bad (bad fault text) = true
is_bad (cd text) = false

-- whether some command begins with a name that no program has
abbrev pub names_no_program : Tree → Bool
names_no_program (exec []) = false
names_no_program (exec (name ∷ arguments)) = is_none (program_of name)
names_no_program (redir mode name body) = names_no_program body
names_no_program (pipe left right) = names_no_program left || names_no_program right
names_no_program (list left right) = names_no_program left || names_no_program right
names_no_program (back body) = names_no_program body

-- whether a line is no command, or one of its commands names no program
abbrev pub is_dead : ScriptLine → Bool
is_dead (command tree) = names_no_program tree
is_dead (bad fault text) = true
is_dead (cd text) = false

-- a number, if it is listed
abbrev pub numbered : ℕ → Bool → List ℕ
numbered number false = []
numbered number true = number ∷ []

-- the numbers of the lines that pass the test, from the one of this number on
abbrev pub numbers_from : (ScriptLine → Bool) → ℕ → List ScriptLine → List ℕ
numbers_from test number [] = []
numbers_from test number (line ∷ lines) = numbered number (test line) ++ numbers_from test (number + 1) lines

-- the numbers, from 1, of the lines that are no command
abbrev pub bad_lines : List ScriptLine → List ℕ
bad_lines lines = numbers_from is_bad 1 lines

-- and of these and those that name no program
abbrev pub dead_lines : List ScriptLine → List ℕ
dead_lines lines = numbers_from is_dead 1 lines
