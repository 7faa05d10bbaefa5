use Rattle.law_runs.proofs.bounds.OfKernel.{finished_of}
use Rattle.hart_run.proofs.facts.it_is_finished_after_so_many_events.Goals as goal

pub returns : goal.returns
returns g c = λ plain clear long. finished_of c.args.kernel.now c.is_booted.ensures c.replays.ensures plain clear long
