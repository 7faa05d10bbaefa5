use Rattle.std.proofs.Common.{◌≡◌, ◌≤◌, length}
use Rattle.user_calls.specs.Limits.{block_size}
use Rattle.user_progs.specs.Turn.{grep_goes_on}
use Rattle.user_progs.proofs.grep.find.Given as goal

-- what is done with the bytes that are left is what is done with all
abbrev pub invariant-loop-line : goal.invariant-loop-line
invariant-loop-line l = (grep_goes_on l.pattern l.rest ≡ grep_goes_on l.pattern l.buffer) × (length l.rest ≤ block_size)

abbrev pub decreases-loop-line : goal.decreases-loop-line
decreases-loop-line l = length l.rest
