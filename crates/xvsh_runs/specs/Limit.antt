-- How many events a run may have, by how many were asked for (own).
use Rattle.std.specs.Prelude.{◌≡◌, ◌+◌, ◌<◌, ◌≤◌, ℕ, false, max, List, Option, Some, None}
use Rattle.mem_files.specs.Name.{Bytes}
use Rattle.mem_files.specs.Files.{FileMap, files}
use Rattle.conflict_check.specs.Clear.{has_back, IsClear}
use Rattle.script_load.specs.declared.line.Line.{Line}
use Rattle.script_load.specs.Line.{ScriptLine, line_of, lines_of}
use Rattle.script_load.specs.declared.limits.TheConstants.{MAX_TURNS}
use Rattle.meaning_model.specs.Meaning.{line_tree, script_tree}
use Rattle.step_bounds.specs.Most.{most_events}
use Rattle.xvsh_read.specs.declared.starting.Start.{Start}
use Rattle.xvsh_runs.specs.declared.limit.TheConstants.{TURNS}

-- no command of the line runs behind `&`, and its commands can't meet at a file
abbrev pub IsClearLine : {A : _} → Line A → Type 0
IsClearLine line = (has_back (line_tree (line_of line)) ≡ false) × IsClear (line_tree (line_of line))

-- the same of a script
abbrev pub AreClear : List ScriptLine → Type 0
AreClear lines = (has_back (script_tree lines) ≡ false) × IsClear (script_tree lines)

-- the turns of a run for which none were asked: as many as are enough for a clear script, but no fewer than TURNS; and TURNS of any other
-- one, and where more would be enough than a run may have
pub record IsOwnLimit (lines : List ScriptLine) (input : Bytes) (F : FileMap) (limit : ℕ) : Type 0 where
  pub enough : AreClear lines → most_events lines input F + 2 ≤ MAX_TURNS → limit ≡ max (most_events lines input F + 2) TURNS
  pub other : (AreClear lines → MAX_TURNS < most_events lines input F + 2) → limit ≡ TURNS

-- the turns of a run: as many as were asked for, if some were
abbrev pub IsLimit : List ScriptLine → Bytes → FileMap → Option ℕ → ℕ → Type 0
IsLimit lines input F None limit = IsOwnLimit lines input F limit
IsLimit lines input F (Some turns) limit = limit ≡ turns

-- the same of what was read
abbrev pub IsLimitOf : Start → Option ℕ → ℕ → Type 0
IsLimitOf start turns limit = IsLimit (lines_of start.script.lines) start.stdin.items (files start.files) turns limit
