-- Which events can happen in a table of processes.
use Rattle.std.specs.Prelude.{◌≡◌, true}
use Rattle.proc_table.specs.Slots.{Table, at, is_running_on}
use Rattle.proc_table.specs.Calls.{CanDispatch}
use Rattle.kernel_model.specs.declared.events.Event.{Event}
use Rattle.kernel_model.specs.declared.events.Event.TheVariants.{Dispatch, Trap}

-- a dispatch of a Runnable process on a hart that runs nothing, or a trap of a process that runs on the hart
abbrev pub CanHappen : {S : Type 0} → Table S → Event → Type 0
CanHappen t (Dispatch h pid) = CanDispatch t h pid
CanHappen t (Trap h pid) = is_running_on h (at t pid) ≡ true
