-- Ends of a script.
use Rattle.std.specs.Prelude.{◌≡◌, ◌-◌, List, length, drop}
use Rattle.script_load.specs.Codes.{lines_fact}
use Rattle.script_load.specs.Line.{ScriptLine}

-- these lines are the last of the script
abbrev pub IsEnd : List ScriptLine → List ScriptLine → Type 0
IsEnd script lines = drop (length script - length lines) script ≡ lines

-- which is a fact
pub end_fact : (script lines : List ScriptLine) → IsProp (IsEnd script lines)
end_fact script lines = lines_fact (drop (length script - length lines) script) lines
