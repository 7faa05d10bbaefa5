use Rattle.std.proofs.Common.{◌≡◌, true, sym, rules}
use Rattle.play_states.specs.Plays.{IsCovered}
use Rattle.play_states.proofs.Placing.{below_more}
use Rattle.play_states.proofs.telling.are_covered.Goals as goal

pub loop-it-preserved : goal.loop-it-preserved
loop-it-preserved c =
    let yes : c.is_covered.result ≡ true = search rules in
    below_more (IsCovered c.args.shown.now) c.args.shown.now c.loop-it.it-index c.it-item.result c.loop-it.invariant c.loop-it-test.true (sym c.it-item.is) (c.is_covered.ensures yes)
