use Rattle.step_commands.proofs.Searched.{nothing}
use Rattle.step_commands.proofs.meaning.begun.Goals as goal

pub returns-in-None : goal.returns-in-None
returns-in-None c = nothing _ c.in-None.ensures.none
