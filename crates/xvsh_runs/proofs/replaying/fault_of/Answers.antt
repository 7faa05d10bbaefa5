use Rattle.std.proofs.Common.{refl, subst}
use Rattle.kernel_runs.specs.Refused.{IsReplayFault}
use Rattle.xvsh_runs.specs.Why.{no_room, no_dispatch, no_trap, not_ended}
use Rattle.xvsh_runs.proofs.Events.{event_at}
use Rattle.xvsh_runs.proofs.replaying.fault_of.Goals as goal

pub returns-in-Some-Dispatch-clause-told : goal.returns-in-Some-Dispatch-clause-told
returns-in-Some-Dispatch-clause-told c start why =
    no_dispatch (subst (IsReplayFault start c.args.events.now) c.in-NotRunnable.is why)
    (event_at c.args.events.now c.in-NotRunnable.number _ _ c.in-Some-Dispatch.ensures.lookup.0 c.in-Some-Dispatch.ensures.lookup.1 c.in-Some-Dispatch.field-0-is)

pub returns-in-Some-Trap-clause-told : goal.returns-in-Some-Trap-clause-told
returns-in-Some-Trap-clause-told c start why =
    no_trap (subst (IsReplayFault start c.args.events.now) c.in-NotRunning.is why)
    (event_at c.args.events.now c.in-NotRunning.number _ _ c.in-Some-Trap.ensures.lookup.0 c.in-Some-Trap.ensures.lookup.1 c.in-Some-Trap.field-0-is)

pub returns-in-Unfinished-clause-told : goal.returns-in-Unfinished-clause-told
returns-in-Unfinished-clause-told c start why = not_ended (subst (IsReplayFault start c.args.events.now) c.in-Unfinished.is why) refl

pub returns-in-Memory-clause-told : goal.returns-in-Memory-clause-told
returns-in-Memory-clause-told c start why = no_room
