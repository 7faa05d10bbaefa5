use Rattle.script_notes.proofs.OneList.{one_list}
use Rattle.script_notes.proofs.laws.one_list.Goals as goal

pub returns : goal.returns
returns c = one_list
