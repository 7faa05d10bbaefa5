use Rattle.std.proofs.Common.{sym, subst}
use Rattle.xvsh_ends.specs.Ends.{IsOfWitness, numbered}
use Rattle.xvsh_ends.proofs.witnesses.write_schedule.Goals as goal

pub returns-in-Err : goal.returns-in-Err
returns-in-Err g c = subst (IsOfWitness c.args.folder.now) (sym c.in_ok-path.ensures) (numbered c.args.number)
