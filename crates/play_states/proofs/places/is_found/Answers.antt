use Rattle.std.proofs.Common.{◌≡◌, ◌<◌, Some, length, sym, ap, subst, ◌∙◌, map, rules}
use Rattle.std.specs.Prelude.{Contains, IfSome, Option, slice_get}
use Rattle.std.proofs.lemmas.Option.{slice_get-get_or}
use Rattle.kernel_model.specs.Outcome.{RunOutcome}
use Rattle.order_search.specs.Told.{outcome_by}
use Rattle.play_states.proofs.Placing.{get_mapped}
use Rattle.play_states.proofs.places.is_found.Goals as goal

pub returns : goal.returns
returns c = λ is.
    let x = c.index-outcomes-place.result in
    let within : c.args.place < length c.args.outcomes.now = search rules in
    let at : slice_get c.args.outcomes.now c.args.place ≡ Some x = slice_get-get_or c.args.outcomes.now c.args.place x within ∙ ap Some (sym c.index-outcomes-place.is) in
    subst (λ (o : Option RunOutcome). IfSome o (Contains (map outcome_by c.args.found.now))) (sym (get_mapped outcome_by c.args.outcomes.now c.args.place x at)) (c.has.ensures is)
