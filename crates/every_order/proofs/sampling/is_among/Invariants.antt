use Rattle.std.proofs.Common.{◌≢◌, ℕ, ◌<◌}
use Rattle.std.specs.Prelude.{slice_index_or}
use Rattle.order_search.specs.Told.{outcome_by}
use Rattle.order_search.specs.declared.outcomes.Outcome.{Outcome}
use Rattle.every_order.proofs.sampling.is_among.Given as goal

-- none of those before leaves the same
abbrev pub invariant-loop-known : goal.invariant-loop-known
invariant-loop-known l = (k : ℕ) (d : Outcome) → k < l.known-index → outcome_by (slice_index_or l.outcomes k d) ≢ outcome_by l.outcome
