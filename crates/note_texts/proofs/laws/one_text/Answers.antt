use Rattle.note_texts.proofs.Explaining.{one_text}
use Rattle.note_texts.proofs.laws.one_text.Goals as goal

pub returns : goal.returns
returns c = one_text
