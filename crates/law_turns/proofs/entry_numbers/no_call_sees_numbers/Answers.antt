use Rattle.law_turns.proofs.entry_numbers.Acted.{acted_same}
use Rattle.law_turns.proofs.entry_numbers.no_call_sees_numbers.Goals as goal

pub returns : goal.returns
returns g c = acted_same
