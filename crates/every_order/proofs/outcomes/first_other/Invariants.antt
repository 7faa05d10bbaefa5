-- The outcomes so far have these diagnostics, or something was full.
use Rattle.std.proofs.Common.{◌≡◌, ◌<◌, ℕ, None}
use Rattle.std.specs.Prelude.{slice_index_or}
use Rattle.order_search.specs.declared.outcomes.Outcome.{Outcome}
use Rattle.every_order.proofs.outcomes.first_other.Given as goal

abbrev pub invariant-loop-outcome : goal.invariant-loop-outcome
invariant-loop-outcome l = (k : ℕ) (d : Outcome) → k < l.outcome-index → (slice_index_or l.outcomes k d).full ≡ None → (slice_index_or l.outcomes k d).diag.items ≡ l.text
