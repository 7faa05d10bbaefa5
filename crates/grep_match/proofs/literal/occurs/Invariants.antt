use Rattle.std.proofs.Common.{◌≡◌, ◌≤◌, length}
use Rattle.grep_match.specs.Match.{can_fit_somewhere}
use Rattle.grep_match.specs.Literal.{ones}
use Rattle.grep_match.proofs.literal.occurs.Given as goal

-- no occurrence begins before the rest
abbrev pub invariant-loop-place : goal.invariant-loop-place
invariant-loop-place l = record {
  fewer : length l.left ≤ length l.text;
  same : can_fit_somewhere (ones l.literal) l.left ≡ can_fit_somewhere (ones l.literal) l.text;
}

abbrev pub decreases-loop-place : goal.decreases-loop-place
decreases-loop-place l = length l.left
