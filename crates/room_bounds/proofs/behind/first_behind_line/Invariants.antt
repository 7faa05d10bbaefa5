use Rattle.std.proofs.Common.{ℕ, ◌<◌, take}
use Rattle.std.specs.Prelude.{map}
use Rattle.script_load.specs.Line.{line_of}
use Rattle.room_bounds.specs.Behind.{FitsBehind, IsBegun}
use Rattle.room_bounds.proofs.behind.first_behind_line.Given as goal

abbrev pub invariant-loop-i : goal.invariant-loop-i
invariant-loop-i g l =
    IsBegun (take l.i (map line_of l.lines)) l.so_far
    × ((fewer : ℕ) → fewer < l.i → FitsBehind (take fewer (map line_of l.lines)))
