use Rattle.law_turns.proofs.Stuck.{never_stuck}
use Rattle.law_turns.proofs.every_outcome.no_run_is_stuck_if_each_kernel_can_do_something.Goals as goal

pub returns : goal.returns
returns g c = never_stuck g.M.Machine.call_of g.M.Machine.next_of
