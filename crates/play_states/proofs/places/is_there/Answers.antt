use Rattle.std.proofs.Common.{◌≡◌, ◌<◌, Some, length, sym, ap, ◌∙◌, map, rules}
use Rattle.std.specs.Prelude.{slice_get}
use Rattle.std.proofs.lemmas.Option.{slice_get-get_or}
use Rattle.order_search.specs.Told.{outcome_by}
use Rattle.play_states.proofs.Placing.{get_mapped}
use Rattle.play_states.proofs.places.is_there.Goals as goal

pub returns : goal.returns
returns c = λ is.
    let x = c.index-outcomes-place.result in
    let within : c.args.place < length c.args.outcomes.now = search rules in
    let at : slice_get c.args.outcomes.now c.args.place ≡ Some x = slice_get-get_or c.args.outcomes.now c.args.place x within ∙ ap Some (sym c.index-outcomes-place.is) in
    get_mapped outcome_by c.args.outcomes.now c.args.place x at ∙ ap Some (c.same.ensures.0 is)
