use Rattle.std.proofs.Common.{◌≡◌, ◌+◌, ◌++◌, length, map}
use Rattle.script_load.specs.Line.{line_of}
use Rattle.missing_names.specs.Missing.{firsts_from, is_missing, missing_names}
use Rattle.missing_names.specs.Texts.{shown}
use Rattle.missing_names.proofs.missing.missing_names.Given as goal

-- the names of the lines that are left complete those of all, and so many lines are done
abbrev pub invariant-loop-line : goal.invariant-loop-line
invariant-loop-line g l = record {
  names : map shown l.found.items ++ firsts_from (is_missing (map line_of l.among.lines.now) l.among.files.now) (l.number + 1) (map line_of l.rest) ≡ missing_names (map line_of l.among.lines.now) l.among.files.now;
  count : l.number + length l.rest ≡ length l.among.lines.now;
}

abbrev pub decreases-loop-line : goal.decreases-loop-line
decreases-loop-line g l = length l.rest
