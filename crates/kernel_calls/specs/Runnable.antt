-- Whether a slot's process is Runnable, by its state. No public clause cites this module.
use Rattle.std.specs.Prelude.{Bool, true, false}
use Rattle.proc_table.specs.declared.states.State.{State}
use Rattle.proc_table.specs.declared.states.State.TheVariants.{Free, Runnable, Running, Asleep, Zombie}

abbrev pub is_runnable_state : State → Bool
is_runnable_state Free = false
is_runnable_state Runnable = true
is_runnable_state (Running h) = false
is_runnable_state (Asleep c) = false
is_runnable_state Zombie = false
