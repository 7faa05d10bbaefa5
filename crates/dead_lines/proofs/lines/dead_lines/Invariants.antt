use Rattle.std.proofs.Common.{◌≡◌, ◌+◌, ◌++◌, length, map}
use Rattle.script_load.specs.Line.{line_of}
use Rattle.dead_lines.specs.Dead.{dead_lines, is_dead, numbers_from}
use Rattle.dead_lines.proofs.lines.dead_lines.Given as goal

-- the numbers of the lines that are left complete those of all, and so many lines are done
abbrev pub invariant-loop-line : goal.invariant-loop-line
invariant-loop-line g l = record {
  numbers : l.found.items ++ numbers_from is_dead (l.number + 1) (map line_of l.rest) ≡ dead_lines (map line_of l.lines);
  count : l.number + length l.rest ≡ length l.lines;
}

abbrev pub decreases-loop-line : goal.decreases-loop-line
decreases-loop-line g l = length l.rest
