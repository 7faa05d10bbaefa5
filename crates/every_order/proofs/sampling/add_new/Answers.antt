use Rattle.std.proofs.Common.{◌≢◌, ℕ, ◌<◌, length, subst, sym}
use Rattle.std.specs.Prelude.{slice_index_or}
use Rattle.std.proofs.lemmas.List.Quantifiers.{all_pairs_push}
use Rattle.order_search.specs.Told.{outcome_by, AreApart}
use Rattle.order_search.specs.declared.outcomes.Outcome.{Outcome}
use Rattle.every_order.proofs.sampling.add_new.Goals as goal

pub returns-clause-apart : goal.returns-clause-apart
returns-clause-apart c was =
    subst AreApart (sym c.in_ok-push.ensures.items)
    (all_pairs_push (λ (x y : Outcome). outcome_by x ≢ outcome_by y) c.args.outcomes.now.items c.args.sample was
    (subst (λ xs. (k : ℕ) (d : Outcome) → k < length xs → outcome_by (slice_index_or xs k d) ≢ outcome_by c.args.sample) c.as_slice.ensures.value (c.is_among.ensures c.if-is_among.false)))
