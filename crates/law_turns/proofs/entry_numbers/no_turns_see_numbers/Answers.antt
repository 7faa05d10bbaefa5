use Rattle.law_turns.proofs.entry_numbers.Turns.{all_taken}
use Rattle.law_turns.proofs.entry_numbers.no_turns_see_numbers.Goals as goal

pub returns : goal.returns
returns g c = all_taken g.M.Machine.call_of g.M.Machine.next_of
