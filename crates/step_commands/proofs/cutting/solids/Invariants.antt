-- The bytes so far are all blanks, or none is.
use Rattle.std.proofs.Common.{◌≡◌, ◌-◌, ◌≤◌, All, length, take, false}
use Rattle.step_commands.specs.Lines.{is_blank}
use Rattle.step_commands.proofs.cutting.solids.Given as goal

abbrev pub invariant-loop-count : goal.invariant-loop-count
invariant-loop-count l = (l.count ≤ length l.line) × All (λ byte. is_blank byte ≡ false) (take l.count l.line)

abbrev pub decreases-loop-count : goal.decreases-loop-count
decreases-loop-count l = length l.line - l.count
