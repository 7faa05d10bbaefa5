-- When an event is paid for.
use Rattle.std.specs.Prelude.{ℕ, ◌+◌, ◌*◌, ◌≤◌, Some}
use Rattle.script_load.specs.declared.profile.Profile.{Profile}
use Rattle.tree_model.specs.Runs.{Stage}
use Rattle.sh_machine.specs.State.{User}
use Rattle.sh_machine.specs.Turn.{call_of, next_of}
use Rattle.kernel_model.specs.declared.events.Event.{Event}
use Rattle.kernel_model.specs.KernelState.{KernelState}
use Rattle.run_model.specs.ScriptRun.{ScriptRun, script_kernel}
use Rattle.process_model.specs.Part.{calls_left}
use Rattle.process_model.specs.Standing.{Stands}
use Rattle.law_runs.specs.Walks.{Walks, calls_in, calls_made}

-- the event, which led from k to l, is so many steps of the machine, and these pay for it and for the calls that the shell's
-- processes make next
pub record IsPaidFor (profile : Profile) (k : KernelState User) (e : Event) (l : KernelState User) : Type 0 where
  pub before : Stage
  pub after : Stage
  pub was : Stands profile k before
  pub now : Stands profile l after
  pub steps : ℕ
  pub walk : Walks profile steps before after
  pub pays : calls_left now.tree + calls_in e l ≤ calls_left was.tree + 15 * steps

-- how many calls a run carried out
abbrev pub calls_in_run : ScriptRun → ℕ
calls_in_run r = calls_made call_of next_of (Some (script_kernel r.profile r.lines r.input r.files)) r.schedule r.notes
