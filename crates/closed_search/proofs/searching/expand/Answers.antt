use Rattle.std.proofs.Common.{◌<◌, map, length, arith}
use Rattle.std.proofs.lemmas.List.{length-map}
use Rattle.closed_search.proofs.Growing.{expanding_first, expanding_next}
use Rattle.closed_search.proofs.searching.expand.Goals as goal

pub loop-step_number-preserved : goal.loop-step_number-preserved
loop-step_number-preserved g c =
    let v = g.T.Node.state in
    let within : c.args.place < length (map v c.args.pool.now.nodes.items) = omega (arith, c.requires.place, length-map c.args.pool.now.nodes.items v) in
    expanding_next g.T.Node.step g.T.Node.stands g.T.Node.private (map v c.args.pool.now.nodes.items) (map v c.loop-step_number.pool.nodes.items) (map v c.take_move.new.pool.nodes.items) c.args.place c.loop-step_number.step_number within c.loop-step_number.invariant c.in_ok-take_move.ensures.has c.in_ok-take_move.ensures.grown

pub loop-step_number-init : goal.loop-step_number-init
loop-step_number-init g c =
    let v = g.T.Node.state in
    expanding_first g.T.Node.step g.T.Node.stands g.T.Node.private (map v c.args.pool.now.nodes.items) c.args.place (omega (arith, c.requires.place, length-map c.args.pool.now.nodes.items v))

pub take_move-requires : goal.take_move-requires
take_move-requires g c =
    let v = g.T.Node.state in
    omega (arith, c.loop-step_number.invariant.within, length-map c.loop-step_number.pool.nodes.items v)
