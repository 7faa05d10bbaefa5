use Rattle.std.proofs.Common.{◌≡◌, take}
use Rattle.kernel_model.specs.Turns.{quiet_turns, turn_events}
use Rattle.order_partings.proofs.turns.events_of.Given as goal

-- the events of the turns so far
abbrev pub invariant-loop-pid : goal.invariant-loop-pid
invariant-loop-pid l = l.events.items ≡ turn_events (quiet_turns (take l.pid-index l.pids))
