use Rattle.std.proofs.Common.{◌≡◌, true, sym, map, rules}
use Rattle.order_search.specs.declared.outcomes.Outcome.{Outcome}
use Rattle.order_search.specs.Told.{outcome_by}
use Rattle.play_states.specs.Plays.{IsAt}
use Rattle.play_states.proofs.Placing.{below_more}
use Rattle.play_states.proofs.places.are_placed.Goals as goal

pub loop-outcome-preserved : goal.loop-outcome-preserved
loop-outcome-preserved c =
    let yes : c.is_placed.result ≡ true = search rules in
    below_more (λ (o : Outcome). IsAt (map outcome_by c.args.outcomes.now) c.args.places.now (outcome_by o)) c.args.found.now c.loop-outcome.outcome-index c.outcome-item.result c.loop-outcome.invariant c.loop-outcome-test.true (sym c.outcome-item.is) (c.is_placed.ensures yes)
