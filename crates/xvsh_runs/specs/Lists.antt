-- What is printed of a finished run.
use Rattle.std.specs.Prelude.{◌≡◌, Bool, true, false, List, [], ◌++◌, Option, Some}
use Rattle.mem_files.specs.Name.{Name, Bytes}
use Rattle.prog_parts.specs.NameSets.{among}
use Rattle.sh_machine.specs.State.{User}
use Rattle.sh_machine.specs.Turn.{call_of, next_of}
use Rattle.kernel_model.specs.declared.events.Event.{Event}
use Rattle.kernel_model.specs.declared.events.Full.{Full}
use Rattle.kernel_model.specs.KernelState.{KernelState}
use Rattle.kernel_model.specs.Events.{run, IsFinished}
use Rattle.schedule_lines.specs.EventLines.{schedule_text}
use Rattle.xvsh_read.specs.Listing.{list_text}
use Rattle.xvsh_runs.specs.declared.report.Lists.{Lists}

-- the list of the files, none of them marked, if it is requested
abbrev pub files_text : Bool → List (Name × Bytes) → Bytes
files_text true files = list_text (among []) files
files_text false files = []

-- the events, a line each, if they are requested
abbrev pub events_text : Bool → List Event → Bytes
events_text true events = schedule_text events
events_text false events = []

-- the output, then the list of the files, then the events
abbrev pub run_text : Lists → Bytes → List (Name × Bytes) → List Event → Bytes
run_text lists out files events = out ++ (files_text lists.files files ++ events_text lists.events events)

-- a run from this kernel by these events is finished, this was full in it, and this is its output with the lists, and this its
-- diagnostics
pub record Prints (start : KernelState User) (events : List Event) (lists : Lists) (full : Option Full) (text diag : Bytes) : Type 0 where
  pub last : KernelState User
  pub notes : List Bool
  pub runs : run call_of next_of (Some start) events notes ≡ Some last
  pub finished : IsFinished last
  pub marked : full ≡ last.full
  pub prints : text ≡ run_text lists last.out last.files events
  pub tells : diag ≡ last.diag
