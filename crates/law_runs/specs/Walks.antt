-- How far a run is: so many steps of the tree machine, and so many calls that were carried out.
use Rattle.std.specs.Prelude.{ℕ, suc, ◌+◌, ◌==◌, if◌then◌else◌, Bool, List, [], ◌∷◌, Option, Some, None}
use Rattle.script_load.specs.declared.profile.Profile.{Profile}
use Rattle.user_calls.specs.declared.calls.Call.{Call}
use Rattle.user_calls.specs.declared.calls.Reply.{Reply}
use Rattle.tree_model.specs.Runs.{Stage, Goes}
use Rattle.proc_table.specs.Slots.{at, is_asleep}
use Rattle.kernel_model.specs.declared.events.Event.{Event}
use Rattle.kernel_model.specs.declared.events.Event.TheVariants.{Dispatch, Trap}
use Rattle.kernel_model.specs.KernelState.{KernelState}
use Rattle.kernel_model.specs.Events.{happens}

-- the machine comes from the one stage to the other by so many steps
pub data Walks (profile : Profile) : ℕ → Stage → Stage → Type 0 where
  stands : {stage : Stage} → Walks profile 0 stage stage
  walks_on : {n : ℕ} {stage next last : Stage} → Goes profile stage next → Walks profile n next last → Walks profile (suc n) stage last

-- 1 where the event, which led to this kernel, is a call of a process other than init that doesn't sleep after it
abbrev pub calls_in : {S : Type 0} → Event → KernelState S → ℕ
calls_in (Dispatch h pid) k = 0
calls_in (Trap h pid) k = if pid == 0 then 0 else (if is_asleep (at k.table pid) then 0 else 1)

module _ {S : Type 0} (call : S → Reply → Call) (next : S → Reply → S) where
  abbrev pub calls_at : Event → Option (KernelState S) → ℕ
  calls_at e None = 0
  calls_at e (Some k) = calls_in e k

  -- how many events of a run are
  abbrev pub calls_made : Option (KernelState S) → List Event → List Bool → ℕ
  calls_made None events notes = 0
  calls_made (Some k) [] notes = 0
  calls_made (Some k) (e ∷ es) [] = 0
  calls_made (Some k) (e ∷ es) (refused ∷ notes) = calls_at e (happens call next k e refused) + calls_made (happens call next k e refused) es notes
