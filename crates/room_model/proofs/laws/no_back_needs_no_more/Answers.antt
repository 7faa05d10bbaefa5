use Rattle.room_model.proofs.Same.{same_bound}
use Rattle.room_model.proofs.laws.no_back_needs_no_more.Goals as goal

pub returns : goal.returns
returns c = λ lines plain. same_bound lines plain
