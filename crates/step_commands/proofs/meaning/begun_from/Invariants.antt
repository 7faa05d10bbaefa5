-- None of the names so far has a word that begins so.
use Rattle.std.proofs.Common.{ℕ, ◌<◌, ◌≤◌}
use Rattle.step_commands.proofs.Searched.{BeginsAt}
use Rattle.step_commands.proofs.meaning.begun_from.Given as goal

abbrev pub invariant-loop-place : goal.invariant-loop-place
invariant-loop-place l = (k : ℕ) → l.from ≤ k → k < l.place → BeginsAt l.word k → ⊥
