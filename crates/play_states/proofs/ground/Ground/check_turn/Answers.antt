use Rattle.std.proofs.Common.{◌≡◌, ◌<◌, ℕ, List, [], ◌∷◌, ◌++◌, Some, true, length, sym, ap, subst, ◌∙◌, rules}
use Rattle.std.specs.Prelude.{Ok}
use Rattle.std.proofs.lemmas.Option.{slice_get-get_or}
use Rattle.order_search.specs.After.{AreAlikeAfter}
use Rattle.play_states.specs.declared.spots.Shown.{Shown}
use Rattle.play_states.proofs.ground.Ground.check_turn.Goals as goal

pub returns : goal.returns
returns g c =
    let call = g.M.Machine.call_of in
    let next = g.M.Machine.next_of in
    let boot = c.args.self.now in
    let x = c.index-shown-place.result in
    let within : c.args.turn.next < length c.args.shown.now = search rules in
    let yes : c.in_ok-alike.alike ≡ true = search rules in
    record {
      to = x;
      there = slice_get-get_or c.args.shown.now c.args.turn.next x within ∙ ap Some (sym c.index-shown-place.is);
      alike = subst (λ (ps : List ℕ). AreAlikeAfter call next boot ps (c.args.pids.now ++ c.args.turn.pid ∷ [])) (c.deref.ensures.value ∙ ap (λ (s : Shown). s.spot.pids.items) (sym c.index-shown-place.is))
          (subst (λ (qs : List ℕ). AreAlikeAfter call next boot c.deref.result.now qs) (c.deref-2.ensures.value ∙ c.in_ok-longer.ensures) (c.in_ok-alike.ensures (ap Ok yes)));
    }
