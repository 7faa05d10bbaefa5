use Rattle.law_runs.proofs.never_stuck.Turns.{one_runs}
use Rattle.hart_run.proofs.facts.nothing_is_runnable_only_while_one_runs_elsewhere.Goals as goal

pub returns : goal.returns
returns g c = λ run none. one_runs c.args.kernel.now.now.table (c.it_is_never_stuck.ensures run) none
