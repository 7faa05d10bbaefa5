-- Runs of a kernel from its start, of any machines.
use Rattle.std.specs.Prelude.{◌≡◌, Bool, List, Some}
use Rattle.mem_files.specs.Name.{Name, Bytes}
use Rattle.user_calls.specs.declared.calls.Call.{Call}
use Rattle.user_calls.specs.declared.calls.Reply.{Reply}
use Rattle.kernel_model.specs.declared.events.Event.{Event}
use Rattle.kernel_model.specs.KernelState.{KernelState}
use Rattle.kernel_model.specs.Boot.{boot_kernel}
use Rattle.kernel_model.specs.Events.{run}

-- a run, finished or not: the machines of init and of the shell, the input and the files with which the kernel is booted, and the
-- schedule, with a note beside each event whether memory was refused, that leads to the last state
pub record KernelRun {S : Type 0} (call : S → Reply → Call) (next : S → Reply → S) : Type 0 where
  pub init : S
  pub shell : S
  pub input : Bytes
  pub files : List (Name × Bytes)
  pub schedule : List Event
  pub notes : List Bool
  pub last : KernelState S
  pub runs : run call next (Some (boot_kernel init shell input files)) schedule notes ≡ Some last

-- the kernel at the start of a run
abbrev pub start_of : {S : Type 0} {call : S → Reply → Call} {next : S → Reply → S} → KernelRun call next → KernelState S
start_of r = boot_kernel r.init r.shell r.input r.files
