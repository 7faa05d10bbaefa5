use Rattle.std.proofs.Common.{◌≡◌, ℕ, ◌<◌, true}
use Rattle.run_figure.specs.Figure.{is_same_at}
use Rattle.run_figure.proofs.figure.common_events.Given as goal

abbrev pub invariant-loop-place : goal.invariant-loop-place
invariant-loop-place l = (place : ℕ) → place < l.place → is_same_at l.one l.other place ≡ true
