-- The names that lines of a script use, and that no file can have when they run: none is given so, and no line writes it (own).
use Rattle.std.specs.Prelude.{ℕ, ◌+◌, Bool, false, not, ◌&&◌, is_none, List, [], ◌∷◌, ◌++◌, Option, Some, None}
use Rattle.std.specs.List.{find, list_any}
use Rattle.sh_tree.specs.declared.fault.ParseFault.{ParseFault}
use Rattle.mem_files.specs.Name.{Name, Bytes}
use Rattle.mem_files.specs.Files.{files}
use Rattle.conflict_check.specs.Names.{writes}
use Rattle.conflict_check.specs.Occurrences.{occurrences}
use Rattle.script_load.specs.Line.{ScriptLine, command, bad, cd}

-- whether a line writes the name
abbrev pub line_writes : ScriptLine → Name → Bool
line_writes (command tree) name = writes tree name
line_writes (bad fault text) name = false
line_writes (cd text) name = false

-- whether some line does
abbrev pub is_written : List ScriptLine → Name → Bool
is_written lines name = list_any (λ line. line_writes line name) lines

-- whether no file can have the name: none of these has it, and no line writes it
abbrev pub is_missing : List ScriptLine → List (Name × Bytes) → Name → Bool
is_missing lines given name = is_none (files given name) && not (is_written lines name)

-- the names that a line uses, in the order of its text
abbrev pub line_names : ScriptLine → List Name
line_names (command tree) = occurrences tree
line_names (bad fault text) = []
line_names (cd text) = []

-- a name with the number of its line, if there is one
abbrev pub numbered : ℕ → Option Name → List (ℕ × Name)
numbered number None = []
numbered number (Some name) = (number, name) ∷ []

-- of each line, from the one of this number on, the first name that passes the test, with the line's number
abbrev pub firsts_from : (Name → Bool) → ℕ → List ScriptLine → List (ℕ × Name)
firsts_from test number [] = []
firsts_from test number (line ∷ lines) = numbered number (find test (line_names line)) ++ firsts_from test (number + 1) lines

-- the first name of each line that no file can have
abbrev pub missing_names : List ScriptLine → List (Name × Bytes) → List (ℕ × Name)
missing_names lines given = firsts_from (is_missing lines given) 1 lines
