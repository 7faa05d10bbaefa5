use Rattle.std.proofs.Common.{ℕ, ◌<◌, take}
use Rattle.std.specs.Prelude.{map}
use Rattle.script_load.specs.Line.{line_of}
use Rattle.meaning_model.specs.Meaning.{script_tree}
use Rattle.room_bounds.specs.Crowd.{HasSlots}
use Rattle.room_bounds.specs.Needs.{AreNeeds}
use Rattle.room_bounds.proofs.crowd.first_crowded_line.Given as goal

abbrev pub invariant-loop-i : goal.invariant-loop-i
invariant-loop-i g l =
    AreNeeds (script_tree (take l.i (map line_of l.lines))) l.so_far
    × ((fewer : ℕ) → fewer < l.i → HasSlots (take fewer (map line_of l.lines)))
