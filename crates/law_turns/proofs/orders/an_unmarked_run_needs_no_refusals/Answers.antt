use Rattle.law_turns.proofs.orders.Matching.{quiet_matched, roomy_matched}
use Rattle.law_turns.proofs.orders.an_unmarked_run_needs_no_refusals.Goals as goal

pub returns-clause-quiet : goal.returns-clause-quiet
returns-clause-quiet g c = quiet_matched g.M.Machine.call_of g.M.Machine.next_of

pub returns-clause-roomy : goal.returns-clause-roomy
returns-clause-roomy g c = roomy_matched g.M.Machine.call_of g.M.Machine.next_of
