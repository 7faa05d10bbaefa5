use Rattle.law_turns.proofs.slot_numbers.Same.{outcome_so}
use Rattle.law_turns.proofs.slot_numbers.slots_are_not_seen_in_an_outcome.Goals as goal

pub returns : goal.returns
returns g c = outcome_so
