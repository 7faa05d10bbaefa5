-- Tests of the state of a slot. No public clause cites this module.
use Rattle.std.specs.Prelude.{Bool, true, false}
use Rattle.proc_table.specs.declared.states.State.{State}
use Rattle.proc_table.specs.declared.states.State.TheVariants.{Free, Runnable, Running, Asleep, Zombie}

abbrev pub is_asleep_state : State → Bool
is_asleep_state Free = false
is_asleep_state Runnable = false
is_asleep_state (Running hart) = false
is_asleep_state (Asleep channel) = true
is_asleep_state Zombie = false

abbrev pub is_runnable_state : State → Bool
is_runnable_state Free = false
is_runnable_state Runnable = true
is_runnable_state (Running hart) = false
is_runnable_state (Asleep channel) = false
is_runnable_state Zombie = false

abbrev pub is_free_state : State → Bool
is_free_state Free = true
is_free_state Runnable = false
is_free_state (Running hart) = false
is_free_state (Asleep channel) = false
is_free_state Zombie = false
