use Rattle.hart_run.proofs.Told as told
use Rattle.hart_run.proofs.facts.every_parent_lives.Goals as goal

pub returns : goal.returns
returns g c = (told.rests g.M.Machine.call_of g.M.Machine.next_of c.args.kernel.now.boot c.args.kernel.now.now c.args.kernel.now.schedule c.args.kernel.now.notes c.replays.ensures c.is_booted.ensures).family
