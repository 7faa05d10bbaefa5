use Rattle.std.proofs.Common.{◌≡◌, drop}
use Rattle.std.specs.Prelude.{map}
use Rattle.script_load.specs.Line.{line_of}
use Rattle.room_bounds.specs.Growth.{is_written}
use Rattle.room_bounds.proofs.grown.is_written.Given as goal

abbrev pub invariant-loop-line : goal.invariant-loop-line
invariant-loop-line g l = is_written (map line_of (drop l.line-index l.lines)) l.name ≡ is_written (map line_of l.lines) l.name
