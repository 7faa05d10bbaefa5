use Rattle.room_bounds.specs.Given.{IsLargestTo}
use Rattle.room_bounds.proofs.given.largest.Given as goal

abbrev pub invariant-loop-i : goal.invariant-loop-i
invariant-loop-i g l = IsLargestTo l.given l.i l.most
