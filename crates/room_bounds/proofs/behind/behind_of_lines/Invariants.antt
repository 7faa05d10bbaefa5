use Rattle.std.proofs.Common.{take}
use Rattle.std.specs.Prelude.{map}
use Rattle.script_load.specs.Line.{line_of}
use Rattle.room_bounds.specs.Behind.{IsBegun}
use Rattle.room_bounds.proofs.behind.behind_of_lines.Given as goal

abbrev pub invariant-loop-line : goal.invariant-loop-line
invariant-loop-line g l = IsBegun (take l.line-index (map line_of l.lines)) l.so_far
