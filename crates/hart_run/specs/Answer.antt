-- The answer of a script: what the report of every finished run of it has.
use Rattle.std.specs.Prelude.{◌≡◌, ◌⊎◌, false, List, Some, None}
use Rattle.mem_files.specs.Name.{Name, Bytes}
use Rattle.mem_files.specs.Files.{files}
use Rattle.script_load.specs.declared.profile.Profile.{Profile}
use Rattle.script_load.specs.Line.{ScriptLine}
use Rattle.meaning_model.specs.Meaning.{script_meaning}
use Rattle.meaning_model.specs.Settled.{IsSettledScript}
use Rattle.meaning_model.specs.Value.{Value}
use Rattle.room_model.specs.Roomy.{IsRoomyScript}
use Rattle.kernel_model.specs.declared.events.Full.TheVariants.{Memory}
use Rattle.kernel_events.specs.declared.report.Report.{Report}

-- the report has the output of the value, and its files but for soft ones: each name has in both the same bytes, or none
pub record IsAnswer {A : _} (value : Value) (report : Report A) : Type 0 where
  pub out : report.out.items ≡ value.out
  pub files : (name : Name) → value.soft name ≡ false → files report.files name ≡ value.files name

-- if the script is settled on this input and these files, and nothing was full, the report has what the script means
abbrev pub IsAnswerIfSettled : {A : _} → Profile → List ScriptLine → Bytes → List (Name × Bytes) → Report A → Type 0
IsAnswerIfSettled profile lines input list report =
    IsSettledScript profile lines input (files list) → report.full ≡ None → IsAnswer (script_meaning profile lines input (files list)) report

-- if the script is settled on this input and these files, and within xv6's tables by its bounds, then nothing was full and the report
-- has what the script means, or memory was refused
abbrev pub IsAnswerIfRoomy : {A : _} → Profile → List ScriptLine → Bytes → List (Name × Bytes) → Report A → Type 0
IsAnswerIfRoomy profile lines input list report =
    IsSettledScript profile lines input (files list) → IsRoomyScript lines input list
    → ((report.full ≡ None) × IsAnswer (script_meaning profile lines input (files list)) report) ⊎ (report.full ≡ Some Memory)
