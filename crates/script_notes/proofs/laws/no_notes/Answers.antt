use Rattle.script_notes.proofs.NoNotes.{no_notes}
use Rattle.script_notes.proofs.laws.no_notes.Goals as goal

pub returns : goal.returns
returns c = no_notes
