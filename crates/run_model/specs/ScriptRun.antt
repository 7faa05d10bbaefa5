-- The runs of a script.
use Rattle.std.specs.Prelude.{◌<◌, ◌+◌, length, ◌≡◌, ℕ, Bool, false, List, Some, None}
use Rattle.mem_files.specs.Name.{Name, Bytes}
use Rattle.mem_files.specs.Files.{files}
use Rattle.mem_files.specs.Listing.{AreFiles}
use Rattle.conflict_check.specs.Clear.{has_back}
use Rattle.script_load.specs.declared.profile.Profile.{Profile}
use Rattle.script_load.specs.Line.{ScriptLine}
use Rattle.meaning_model.specs.Meaning.{script_meaning, script_tree}
use Rattle.meaning_model.specs.Settled.{IsSettledScript}
use Rattle.meaning_model.specs.Value.{Value}
use Rattle.sh_machine.specs.declared.state.Phase.TheVariants.{Starts}
use Rattle.sh_machine.specs.State.{User, init, shell, top}
use Rattle.sh_machine.specs.Turn.{call_of, next_of}
use Rattle.kernel_model.specs.declared.events.Event.{Event}
use Rattle.kernel_model.specs.KernelState.{KernelState}
use Rattle.kernel_model.specs.Boot.{boot_kernel}
use Rattle.kernel_model.specs.Events.{run}
use Rattle.run_model.specs.Turns.{IsSpentBy, RunsOutOfTurns}

-- the kernel at the start of a script on this input and these files: init, and the top shell before the first line
abbrev pub script_kernel : Profile → List ScriptLine → Bytes → List (Name × Bytes) → KernelState User
script_kernel profile lines input files = boot_kernel init (shell profile (top Starts lines)) input files

-- a run of a script, finished or not: the script, its profile, the input and the files, and the schedule, with a note beside each
-- event whether memory was refused, that leads from the script's kernel to the last state
pub record ScriptRun : Type 0 where
  pub profile : Profile
  pub lines : List ScriptLine
  pub input : Bytes
  pub files : List (Name × Bytes)
  pub are : AreFiles files
  pub schedule : List Event
  pub notes : List Bool
  pub last : KernelState User
  pub runs : run call_of next_of (Some (script_kernel profile lines input files)) schedule notes ≡ Some last

-- the script has no `&`
abbrev pub HasNoBack : ScriptRun → Type 0
HasNoBack r = has_back (script_tree r.lines) ≡ false

-- no call was refused because something was full
abbrev pub IsRoomy : ScriptRun → Type 0
IsRoomy r = r.last.full ≡ None

-- the script is settled on the input and the files
abbrev pub IsSettledRun : ScriptRun → Type 0
IsSettledRun r = IsSettledScript r.profile r.lines r.input (files r.files)

-- what the script means on them
abbrev pub meaning_of : ScriptRun → Value
meaning_of r = script_meaning r.profile r.lines r.input (files r.files)

-- some run from this kernel spends so many turns
abbrev pub IsSpentFrom : KernelState User → ℕ → Type 0
IsSpentFrom start turns = IsSpentBy call_of next_of start turns

-- and leaves fewer than two of them; or does so where nothing was full in it
abbrev pub IsOutOfTurnsFrom : KernelState User → ℕ → Type 0
IsOutOfTurnsFrom start turns = RunsOutOfTurns call_of next_of start turns

abbrev pub IsOutOfTurnsIfRoomy : KernelState User → ℕ → Type 0
IsOutOfTurnsIfRoomy start turns = (s : IsSpentFrom start turns) × (s.last.full ≡ None → turns < length s.events + 2)
