use Rattle.xvsh_ends.specs.Ends.{whole, out_stopped, err_stopped}
use Rattle.xvsh_ends.proofs.Dues.{keeps_same}
use Rattle.xvsh_ends.proofs.ending.write_ending.Goals as goal

pub returns-in-Ok-write_told-clause-writes : goal.returns-in-Ok-write_told-clause-writes
returns-in-Ok-write_told-clause-writes g c = whole c.in-Ok.ensures.written c.in-Ok-write_told.ensures.written

pub returns-in-Err-write_told-clause-writes : goal.returns-in-Err-write_told-clause-writes
returns-in-Err-write_told-clause-writes g c = err_stopped c.in-Ok.ensures.written c.in-Err-write_told.ensures.part

pub returns-in-Err-clause-writes : goal.returns-in-Err-clause-writes
returns-in-Err-clause-writes g c = out_stopped c.in-Err.ensures.part (keeps_same (g.E.Write.contents c.args.err.now))
