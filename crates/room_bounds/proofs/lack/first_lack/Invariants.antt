use Rattle.std.proofs.Common.{ℕ, ◌<◌, take}
use Rattle.std.specs.Prelude.{map}
use Rattle.script_load.specs.Line.{line_of}
use Rattle.room_model.specs.Roomy.{IsRoomyScript}
use Rattle.room_bounds.specs.Needs.{IsNeedOfLines}
use Rattle.room_bounds.proofs.lack.first_lack.Given as goal

abbrev pub invariant-loop-i : goal.invariant-loop-i
invariant-loop-i g l =
    IsNeedOfLines (take l.i (map line_of l.lines)) l.stdin l.store l.so_far
    × ((fewer : ℕ) → fewer < l.i → IsRoomyScript (take fewer (map line_of l.lines)) l.stdin l.store)
