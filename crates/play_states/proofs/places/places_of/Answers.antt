use Rattle.std.proofs.Common.{◌≡◌, ℕ, List, true, subst, map, rules}
use Rattle.std.specs.Prelude.{All}
use Rattle.kernel_model.specs.Outcome.{RunOutcome}
use Rattle.order_search.specs.declared.outcomes.Outcome.{Outcome}
use Rattle.order_search.specs.Told.{outcome_by}
use Rattle.play_states.specs.Plays.{IsAt, IsOneOf}
use Rattle.play_states.proofs.Placing.{all_mapped, placed}
use Rattle.play_states.proofs.places.places_of.Goals as goal

pub returns : goal.returns
returns c =
    let outcomes = map outcome_by c.args.outcomes.now in
    let found = map outcome_by c.args.found.now in
    let places = c.in_ok-places.places.items in
    let ones : c.are_found.result ≡ true = search rules in
    let alls : c.are_placed.result ≡ true = search rules in
    let one : All (IsOneOf outcomes found) places = subst (All (IsOneOf outcomes found)) c.deref.ensures.value (c.are_found.ensures ones) in
    let each : All (λ (o : Outcome). IsAt outcomes places (outcome_by o)) c.args.found.now = subst (λ (ps : List ℕ). All (λ (o : Outcome). IsAt outcomes ps (outcome_by o)) c.args.found.now) c.deref-2.ensures.value (c.are_placed.ensures alls) in
    placed outcomes found places one (λ o has. all_mapped outcome_by (IsAt outcomes places) c.args.found.now o each has)
