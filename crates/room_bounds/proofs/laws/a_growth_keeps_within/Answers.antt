use Rattle.room_bounds.proofs.Growths.{keeps}
use Rattle.room_bounds.proofs.laws.a_growth_keeps_within.Goals as goal

pub returns : goal.returns
returns c = λ lines input F more enough. keeps lines input F more enough
