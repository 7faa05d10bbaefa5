use Rattle.note_texts.proofs.Explaining.{nothing_to_tell}
use Rattle.note_texts.proofs.laws.nothing_to_tell.Goals as goal

pub returns : goal.returns
returns c = nothing_to_tell
