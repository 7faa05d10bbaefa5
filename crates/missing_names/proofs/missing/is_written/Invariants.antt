use Rattle.std.proofs.Common.{◌≡◌, length, map}
use Rattle.script_load.specs.Line.{line_of}
use Rattle.missing_names.specs.Missing.{is_written}
use Rattle.missing_names.proofs.missing.is_written.Given as goal

-- the lines that are left decide
abbrev pub invariant-loop-line : goal.invariant-loop-line
invariant-loop-line g l = is_written (map line_of l.rest) l.name ≡ is_written (map line_of l.lines) l.name

abbrev pub decreases-loop-line : goal.decreases-loop-line
decreases-loop-line g l = length l.rest
