use Rattle.law_turns.proofs.entry_numbers.Still.{outcome_so, slots_so, still_so}
use Rattle.law_turns.proofs.entry_numbers.numbers_are_not_seen.Goals as goal

pub returns-clause-outcome : goal.returns-clause-outcome
returns-clause-outcome g c = outcome_so

pub returns-clause-processes : goal.returns-clause-processes
returns-clause-processes g c = slots_so

pub returns-clause-still : goal.returns-clause-still
returns-clause-still g c = still_so
