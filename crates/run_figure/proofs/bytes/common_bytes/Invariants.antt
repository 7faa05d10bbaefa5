use Rattle.std.proofs.Common.{◌≡◌, ℕ, ◌<◌, true}
use Rattle.run_figure.specs.Bytes.{is_same_byte}
use Rattle.run_figure.proofs.bytes.common_bytes.Given as goal

abbrev pub invariant-loop-place : goal.invariant-loop-place
invariant-loop-place l = (place : ℕ) → place < l.place → is_same_byte l.one l.other place ≡ true
