use Rattle.std.proofs.Common.{ℕ, List, sym, subst, arith}
use Rattle.std.specs.Prelude.{All}
use Rattle.play_states.specs.declared.spots.Turn.{Turn}
use Rattle.play_states.specs.declared.spots.Shown.{Shown}
use Rattle.play_states.specs.Plays.{IsAlikeTo}
use Rattle.play_states.proofs.Placing.{below_more}
use Rattle.play_states.proofs.ground.Ground.check_all_turns.Goals as goal

pub loop-it-preserved : goal.loop-it-preserved
loop-it-preserved g c =
    let call = g.M.Machine.call_of in
    let next = g.M.Machine.next_of in
    let shown = c.args.shown.now in
    let x = c.it-item.result in
    let here : All (IsAlikeTo call next c.args.self.now shown x.spot.pids.items) x.spot.turns.items =
    subst (λ (ts : List Turn). All (IsAlikeTo call next c.args.self.now shown x.spot.pids.items) ts) c.deref-in-loop-it.ensures.value
    (subst (λ (ps : List ℕ). All (IsAlikeTo call next c.args.self.now shown ps) c.deref-in-loop-it.result.now) c.deref.ensures.value c.in_ok-check_turns.ensures) in
    below_more (λ (s : Shown). All (IsAlikeTo call next c.args.self.now shown s.spot.pids.items) s.spot.turns.items) shown c.loop-it.it-index x c.loop-it.invariant c.loop-it-test.true (sym c.it-item.is) here

pub returns : goal.returns
returns g c = λ i d within. let t = c.loop-it-test.false in c.loop-it.invariant i d (omega (arith, within, t))
