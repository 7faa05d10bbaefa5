use Rattle.hart_run.proofs.Told as told
use Rattle.hart_run.proofs.facts.a_pipe_loses_nothing.Goals as goal

pub returns : goal.returns
returns g c = λ id p found. told.nothing_lost g.M.Machine.call_of g.M.Machine.next_of c.args.kernel.now.boot c.args.kernel.now.now c.args.kernel.now.schedule c.args.kernel.now.notes c.replays.ensures c.is_booted.ensures id p found
