use Rattle.std.proofs.Common.{◌≡◌, ◌≤◌, length}
use Rattle.grep_match.specs.Pattern.{items_of}
use Rattle.grep_match.specs.Places.{leads}
use Rattle.grep_match.proofs.marks.walk.Given as goal

-- the items that are left lead on from the marked places just where all of them led on from the first ones
abbrev pub invariant-loop-item : goal.invariant-loop-item
invariant-loop-item l = record {
  shorter : length l.unread ≤ length l.text;
  same : leads l.marks (items_of l.left) l.unread ≡ leads l.fn.marks (items_of l.items) l.text;
}

abbrev pub decreases-loop-item : goal.decreases-loop-item
decreases-loop-item l = length l.left
