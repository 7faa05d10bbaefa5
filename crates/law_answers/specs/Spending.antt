-- Runs that are given up, of scripts that have room.
use Rattle.std.specs.Prelude.{ℕ, ◌+◌, ◌≤◌, false, List, Option}
use Rattle.mem_files.specs.Name.{Name, Bytes}
use Rattle.mem_files.specs.Files.{files}
use Rattle.script_load.specs.Line.{ScriptLine}
use Rattle.script_load.specs.declared.limits.TheConstants.{MAX_TURNS}
use Rattle.meaning_model.specs.Settled.{IsSettledScript}
use Rattle.run_model.specs.ScriptRun.{IsSpentFrom, script_kernel}
use Rattle.room_model.specs.Roomy.{IsRoomyScript}
use Rattle.step_bounds.specs.Most.{most_events}
use Rattle.hart_run.specs.Filled.{IsRefusedFrom}
use Rattle.xvsh_read.specs.Starting.{Starts}
use Rattle.xvsh_runs.specs.Limit.{IsLimit}
use Rattle.law_answers.specs.Settings.{Setting}

-- some run of what was read spends its turns, as many as were asked for or as it may have; and if the script is settled on it, has room in
-- xv6's tables by its bounds, and the turns are as many as are enough for it, then in some run that spends its turns memory was refused
pub record IsSpentIn (s : Setting) (turns : Option ℕ) : Type 0 where
  pub lines : List ScriptLine
  pub given : List (Name × Bytes)
  pub stdin : Bytes
  pub starts : Starts s.input s.file false s.script s.paths lines given stdin
  pub limit : ℕ
  pub limited : IsLimit lines stdin (files given) turns limit
  pub spent : IsSpentFrom (script_kernel s.profile lines stdin given) limit
  pub refused : IsSettledScript s.profile lines stdin (files given) → IsRoomyScript lines stdin given → most_events lines stdin (files given) + 2 ≤ limit → IsRefusedFrom (script_kernel s.profile lines stdin given)

-- if the script that was read is settled, has room, and a run may have as many turns as are enough for it, then in some run that spends
-- its turns memory was refused
pub record IsGivenUpIn (s : Setting) : Type 0 where
  pub lines : List ScriptLine
  pub given : List (Name × Bytes)
  pub stdin : Bytes
  pub starts : Starts s.input s.file false s.script s.paths lines given stdin
  pub refused : IsSettledScript s.profile lines stdin (files given) → IsRoomyScript lines stdin given → most_events lines stdin (files given) + 2 ≤ MAX_TURNS → IsRefusedFrom (script_kernel s.profile lines stdin given)
