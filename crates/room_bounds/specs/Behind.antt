-- What a script needs of processes, open-file entries and descriptors, also where commands run behind `&`.
use Rattle.std.specs.Prelude.{ℕ, ◌<◌, ◌≤◌, List, length, take, Option}
use Rattle.sh_tree.specs.Tree.{Tree}
use Rattle.script_load.specs.Line.{ScriptLine}
use Rattle.meaning_model.specs.Meaning.{script_tree}
use Rattle.room_model.specs.Descriptors.{script_descriptors}
use Rattle.room_model.specs.Opens.{most_opens}
use Rattle.room_model.specs.BehindOpens.{opens_in_all}
use Rattle.room_model.specs.BehindProcesses.{at_once, left_behind, processes_at_once}
use Rattle.room_bounds.specs.Capped.{IsCapped}
use Rattle.room_bounds.specs.Needs.{AreNeeds}
use Rattle.room_bounds.specs.Room.{IsTooMuch}
use Rattle.room_bounds.specs.declared.behind.Together.{Together}
use Rattle.room_bounds.specs.declared.behind.Begun.{Begun}
use Rattle.room_bounds.specs.declared.behind.Behind.{Behind}
use Rattle.room_bounds.specs.declared.lack.Lack.{Lack}
use Rattle.room_bounds.specs.declared.table.Table.{Table}
use Rattle.room_bounds.specs.declared.table.Table.TheVariants.{Processes, Entries, Descriptors, Files, Size}
use Rattle.room_bounds.specs.declared.table.TheConstants.{MOST_PROCESSES, MOST_DESCRIPTORS}

-- the processes of a command
pub record AreTogether (tree : Tree) (together : Together) : Type 0 where
  pub at_once : IsCapped (at_once tree) together.at_once
  pub behind : IsCapped (left_behind tree) together.behind

-- of some lines, with what else they need
pub record IsBegun (lines : List ScriptLine) (begun : Begun) : Type 0 where
  pub together : AreTogether (script_tree lines) begun.together
  pub opens : IsCapped (most_opens (script_tree lines)) begun.opens
  pub needs : AreNeeds (script_tree lines) begun.needs

-- how much a script needs of processes or of descriptors
abbrev pub IsNeedBehind : Table → List ScriptLine → Option ℕ → Type 0
IsNeedBehind Processes lines need = IsCapped (processes_at_once lines) need
IsNeedBehind Entries lines need = ⊥
IsNeedBehind Descriptors lines need = IsCapped (script_descriptors lines) need
IsNeedBehind Files lines need = ⊥
IsNeedBehind Size lines need = ⊥

-- of both, and of entries how many it comes to use in all
pub record IsBehind (lines : List ScriptLine) (behind : Behind) : Type 0 where
  pub processes : IsNeedBehind Processes lines behind.processes
  pub entries : IsCapped (opens_in_all lines) behind.entries
  pub descriptors : IsNeedBehind Descriptors lines behind.descriptors

-- it needs no more processes and descriptors than there are
pub record FitsBehind (lines : List ScriptLine) : Type 0 where
  pub processes : processes_at_once lines ≤ MOST_PROCESSES
  pub descriptors : script_descriptors lines ≤ MOST_DESCRIPTORS

-- the first lines that need too many processes or descriptors: fewer fit, and so many need so much of it, which is more than it has
pub record IsFirstBehind (lines : List ScriptLine) (lack : Lack) : Type 0 where
  pub within : lack.line ≤ length lines
  pub before : (fewer : ℕ) → fewer < lack.line → FitsBehind (take fewer lines)
  pub need : IsNeedBehind lack.table (take lack.line lines) lack.need
  pub much : IsTooMuch lack.table lack.need
