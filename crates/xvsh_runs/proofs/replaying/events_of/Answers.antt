use borrow.Author.Tests.{tests}
use Rattle.std.proofs.lemmas.Grind.{common_steps}
use Rattle.std.proofs.Common.{rules, refl}
use Rattle.schedule_lines.specs.EventLines.{IsNoEventAt}
use Rattle.xvsh_runs.specs.Why.{no_event, unkept}
use Rattle.xvsh_runs.proofs.replaying.events_of.Goals as goal

pub returns-in-Err-NoEvent-clause-fault : goal.returns-in-Err-NoEvent-clause-fault
returns-in-Err-NoEvent-clause-fault c =
    let none : IsNoEventAt c.args.bytes.now c.in-Err-NoEvent.line = search (tests, rules, common_steps) in
    no_event refl none

pub returns-in-Err-Memory-clause-fault : goal.returns-in-Err-Memory-clause-fault
returns-in-Err-Memory-clause-fault c = unkept
