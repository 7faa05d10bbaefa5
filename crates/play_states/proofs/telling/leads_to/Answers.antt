use Rattle.std.proofs.Common.{◌≡◌, ◌<◌, ℕ, List, Some, length, sym, ap, subst, ◌∙◌, rules}
use Rattle.std.specs.Prelude.{Contains}
use Rattle.std.proofs.lemmas.Option.{slice_get-get_or}
use Rattle.play_states.specs.declared.spots.Shown.{Shown}
use Rattle.play_states.proofs.telling.leads_to.Goals as goal

pub returns : goal.returns
returns c = λ is.
    let x = c.index-shown-next.result in
    let within : c.args.turn.next < length c.args.shown.now = search rules in
    (x, slice_get-get_or c.args.shown.now c.args.turn.next x within ∙ ap Some (sym c.index-shown-next.is), subst (λ (ps : List ℕ). Contains ps c.args.place) (c.deref.ensures.value ∙ ap (λ (s : Shown). s.possible.items) (sym c.index-shown-next.is)) (c.has_place.ensures is))
