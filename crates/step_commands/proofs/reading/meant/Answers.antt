use Rattle.step_commands.proofs.Spelling.{standing}
use Rattle.step_commands.proofs.reading.meant.Goals as goal

pub returns-in-Some-clause-ok : goal.returns-in-Some-clause-ok
returns-in-Some-clause-ok c = standing _ _ _ c.args.name c.in-Some.command c.requires c.in-Some.ensures
