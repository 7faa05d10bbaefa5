use Rattle.law_turns.proofs.slot_numbers.Turns.{turn_taken, turns_taken}
use Rattle.law_turns.proofs.slot_numbers.no_turn_sees_slots.Goals as goal

pub returns-clause-one : goal.returns-clause-one
returns-clause-one g c = turn_taken g.M.Machine.call_of g.M.Machine.next_of

pub returns-clause-all : goal.returns-clause-all
returns-clause-all g c = turns_taken g.M.Machine.call_of g.M.Machine.next_of
