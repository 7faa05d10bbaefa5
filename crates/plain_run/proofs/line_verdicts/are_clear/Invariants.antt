use Rattle.std.proofs.Common.{◌↔◌, drop}
use Rattle.std.specs.Prelude.{map}
use Rattle.script_load.specs.Line.{line_of}
use Rattle.plain_run.proofs.SettledLines.{AreClearLines}
use Rattle.plain_run.proofs.line_verdicts.are_clear.Given as goal

-- all are clear where those that are left are
abbrev pub invariant-loop-line : goal.invariant-loop-line
invariant-loop-line g l = AreClearLines (map line_of l.lines) ↔ AreClearLines (map line_of (drop l.line-index l.lines))
