-- When a run can go on, and when it is over.
use Rattle.std.specs.Prelude.{◌≡◌, ℕ, Bool, true, is_some}
use Rattle.mem_files.specs.Files.{files}
use Rattle.kernel_model.specs.declared.events.Event.{Event}
use Rattle.kernel_model.specs.KernelState.{KernelState}
use Rattle.kernel_model.specs.Events.{happens, IsFinished}
use Rattle.sh_machine.specs.State.{User}
use Rattle.sh_machine.specs.Turn.{call_of, next_of}
use Rattle.run_model.specs.ScriptRun.{ScriptRun}
use Rattle.step_bounds.specs.Most.{most_events}

-- this event can happen next, whether memory is refused at it or not
pub record CanGoOn (k : KernelState User) : Type 0 where
  pub event : Event
  pub happens : (refused : Bool) → is_some (happens call_of next_of k event refused) ≡ true

-- m is finished as k is, and has the same output, diagnostics, files and unread input; the same was full
pub record StaysFinished (k m : KernelState User) : Type 0 where
  pub finished : IsFinished m
  pub out : m.out ≡ k.out
  pub diag : m.diag ≡ k.diag
  pub files : m.files ≡ k.files
  pub input : m.input ≡ k.input
  pub full : m.full ≡ k.full

-- how many events a run has at most before it is finished, by its script, the length of the input and the sizes of the files
abbrev pub most_of : ScriptRun → ℕ
most_of r = most_events r.lines r.input (files r.files)
