use Rattle.std.proofs.Common.{◌≡◌, take}
use Rattle.kernel_model.specs.Turns.{callers}
use Rattle.step_session.proofs.rest.callers_of.Given as goal

-- the callers of the events so far
abbrev pub invariant-loop-event : goal.invariant-loop-event
invariant-loop-event l = l.pids.items ≡ callers (take l.event-index l.events)
