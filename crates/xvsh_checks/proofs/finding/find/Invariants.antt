use Rattle.std.proofs.Common.{◌+◌, drop}
use Rattle.std.specs.Prelude.{map}
use Rattle.script_load.specs.Line.{line_of}
use Rattle.xvsh_checks.proofs.Adding.{Completes, Decides}
use Rattle.xvsh_checks.proofs.finding.find.Given as goal

-- the findings of the lines that are left complete the list, and these lines are harmless where all are
abbrev pub invariant-loop-i : goal.invariant-loop-i
invariant-loop-i l =
    Completes (map line_of l.line-items) (l.i + 1) (map line_of (drop l.i l.line-items)) l.list.items
    × Decides l.is_strict (map line_of l.line-items) (map line_of (drop l.i l.line-items)) l.is_harmless
