use Rattle.std.proofs.Common.{length}
use Rattle.script_load.proofs.Checked.{IsCheckedTo}
use Rattle.script_load.proofs.loading.check.Given as goal

abbrev pub invariant-loop-line : goal.invariant-loop-line
invariant-loop-line l = IsCheckedTo l.bytes l.rest l.number

abbrev pub decreases-loop-line : goal.decreases-loop-line
decreases-loop-line l = length l.rest
