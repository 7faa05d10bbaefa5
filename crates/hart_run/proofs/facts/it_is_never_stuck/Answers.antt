use Rattle.law_runs.proofs.never_stuck.Turns.{awake_then}
use Rattle.hart_run.proofs.facts.it_is_never_stuck.Goals as goal

pub returns : goal.returns
returns g c = λ run. awake_then c.args.kernel.now c.is_booted.ensures c.replays.ensures run
