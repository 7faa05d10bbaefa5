use Rattle.std.proofs.Common.{take}
use Rattle.std.specs.Prelude.{map}
use Rattle.script_load.specs.Line.{line_of}
use Rattle.room_bounds.specs.Needs.{IsNeedOfLines}
use Rattle.room_bounds.proofs.beginning.all_lines.Given as goal

abbrev pub invariant-loop-line : goal.invariant-loop-line
invariant-loop-line g l = IsNeedOfLines (take l.line-index (map line_of l.lines)) l.stdin l.files l.so_far
