use Rattle.std.proofs.Common.{ℕ, List, inr, subst}
use Rattle.std.specs.Prelude.{All}
use Rattle.play_states.specs.declared.spots.Turn.{Turn}
use Rattle.play_states.specs.Plays.{IsLedTo}
use Rattle.play_states.proofs.telling.is_covered.Goals as goal

pub returns : goal.returns
returns c = λ is.
    inr (inr (subst (λ (ps : List ℕ). All (IsLedTo c.args.shown.now c.args.it.now.spot.turns.items) ps) c.deref-2.ensures.value
    (subst (λ (ts : List Turn). All (IsLedTo c.args.shown.now ts) c.deref-2.result.now) c.deref.ensures.value (c.are_led_to.ensures is))))
