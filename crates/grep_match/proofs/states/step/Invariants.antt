use Rattle.std.proofs.Common.{◌≡◌, ◌+◌, ◌≤◌, ◌++◌, take, drop, length, false}
use Rattle.grep_match.specs.Pattern.{items_of}
use Rattle.grep_match.specs.States.{comes_through, moved}
use Rattle.grep_match.proofs.states.step.Given as goal

-- what is done, and then what the items that are left give, is what all give
abbrev pub invariant-loop-item : goal.invariant-loop-item
invariant-loop-item l = record {
  room : l.state + length l.left ≤ length l.items;
  through : comes_through l.next l.reached (drop l.state l.states) (items_of l.left) ≡ comes_through l.next l.starts l.fn.states (items_of l.items);
  moves : take l.state l.states ++ moved l.next l.reached l.arrived (drop l.state l.states) (items_of l.left) ≡ moved l.next l.starts false l.fn.states (items_of l.items);
}

abbrev pub decreases-loop-item : goal.decreases-loop-item
decreases-loop-item l = length l.left
