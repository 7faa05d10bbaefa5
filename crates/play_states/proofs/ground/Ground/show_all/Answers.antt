use Rattle.std.proofs.Common.{List, sym, subst}
use Rattle.std.specs.Prelude.{All}
use Rattle.order_search.proofs.Telling.{one_more}
use Rattle.play_states.specs.Plays.{IsShown}
use Rattle.play_states.proofs.ground.Ground.show_all.Goals as goal

pub loop-spot-preserved : goal.loop-spot-preserved
loop-spot-preserved g c =
    let P = IsShown g.M.Machine.call_of g.M.Machine.next_of c.args.self.now c.args.outcomes.now in
    subst (All P) (sym c.in_ok-push_shown.ensures) (one_more P c.loop-spot.shown.items c.in_ok-it.it c.loop-spot.invariant c.in_ok-it.ensures)

pub returns : goal.returns
returns g c = c.loop-spot.invariant
