use Rattle.law_turns.proofs.entry_numbers.Numberings.{same_itself, same_back, same_on}
use Rattle.law_turns.proofs.entry_numbers.to_differ_in_numbers_is_an_equivalence.Goals as goal

pub returns-clause-itself : goal.returns-clause-itself
returns-clause-itself g c = same_itself

pub returns-clause-back : goal.returns-clause-back
returns-clause-back g c = same_back

pub returns-clause-on : goal.returns-clause-on
returns-clause-on g c = same_on
