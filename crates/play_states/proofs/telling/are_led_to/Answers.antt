use Rattle.std.proofs.Common.{◌≡◌, true, rules}
use Rattle.std.proofs.lemmas.List.{get_or_default}
use Rattle.play_states.specs.Plays.{IsLedTo}
use Rattle.play_states.proofs.Placing.{below_more}
use Rattle.play_states.proofs.telling.are_led_to.Goals as goal

pub loop-place-preserved : goal.loop-place-preserved
loop-place-preserved c =
    let yes : c.is_led_to.result ≡ true = search rules in
    below_more (IsLedTo c.args.shown.now c.args.turns.now) c.args.places.now c.loop-place.place-index _ c.loop-place.invariant c.loop-place-test.true (get_or_default c.args.places.now c.loop-place.place-index _ _ c.loop-place-test.true) (c.is_led_to.ensures yes)
