use Rattle.std.proofs.Common.{drop, true, false}
use Rattle.std.specs.Prelude.{map}
use Rattle.script_load.specs.Line.{line_of}
use Rattle.xvsh_checks.proofs.Adding.{Decides}
use Rattle.xvsh_checks.proofs.rooms.is_clear.Given as goal

abbrev pub invariant-loop-line : goal.invariant-loop-line
invariant-loop-line l = Decides false (map line_of l.lines) (map line_of (drop l.line-index l.lines)) true
