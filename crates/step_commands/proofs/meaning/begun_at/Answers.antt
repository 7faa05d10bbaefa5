use Rattle.std.proofs.Common.{arith}
use Rattle.step_commands.proofs.Searched.{one, several}
use Rattle.step_commands.proofs.meaning.begun_at.Goals as goal

pub returns-in-Some : goal.returns-in-Some
returns-in-Some c = several _ c.args.place c.in-Some.field-0 (omega (arith, c.in-Some.ensures.within.0)) c.in-Some.ensures.within.1 c.requires.begun c.in-Some.ensures.begun

pub returns-in-None : goal.returns-in-None
returns-in-None c = one _ c.args.place c.requires.begun c.requires.first c.in-None.ensures.none
