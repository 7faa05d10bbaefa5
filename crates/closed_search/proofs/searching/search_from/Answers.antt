use Rattle.std.proofs.Common.{map, ◌≡◌, ◌<◌, ◌≤◌, List, [], ◌∷◌, length, sym, ap, subst, rules, arith}
use Rattle.std.proofs.lemmas.List.{length-map}
use Rattle.closed_search.specs.Searched.{IsReducedUnder}
use Rattle.closed_search.proofs.Growing.{Searching, searching_first, searching_next, closed}
use Rattle.closed_search.proofs.searching.search_from.Goals as goal

pub loop-place-init : goal.loop-place-init
loop-place-init g c =
    let v = g.T.Node.state in
    let settled = c.in_ok-settled.settled in
    let same : c.keep.new.pool.nodes.items ≡ settled ∷ [] = search rules in
    subst (λ (xs : List _). Searching g.T.Node.step g.T.Node.stands g.T.Node.private c.args.bounds.moves (v c.args.start) (map v xs) 0) (sym same)
    (searching_first g.T.Node.step g.T.Node.stands g.T.Node.private c.args.bounds.moves (v c.args.start) (v settled) (g.met.T.Node.itself (v settled)) c.in_ok-settled.ensures)

pub loop-place-preserved : goal.loop-place-preserved
loop-place-preserved g c =
    let v = g.T.Node.state in
    let within : c.loop-place.place < length c.loop-place.pool.nodes.items = search rules in
    let inside : c.loop-place.place < length (map v c.loop-place.pool.nodes.items) = omega (arith, within, length-map c.loop-place.pool.nodes.items v) in
    searching_next g.T.Node.step g.T.Node.stands g.T.Node.private c.args.bounds.moves (v c.args.start) (map v c.loop-place.pool.nodes.items) (map v c.expand.new.pool.nodes.items) c.loop-place.place inside c.loop-place.invariant c.in_ok-expand.ensures.has c.in_ok-expand.ensures.grown

pub returns-clause-whole : goal.returns-clause-whole
returns-clause-whole g c = λ whole.
    let v = g.T.Node.state in
    let over : length c.loop-place.pool.nodes.items ≤ c.loop-place.place = search rules in
    subst (λ (xs : List _). IsReducedUnder g.T.Node.step g.T.Node.stands g.T.Node.private c.args.bounds.moves (v c.args.start) (map v xs)) (ap (λ (nodes : _). nodes.items) (sym c.whole_of.ensures.nodes))
    (closed g.T.Node.step g.T.Node.stands g.T.Node.private c.args.bounds.moves (v c.args.start) (map v c.loop-place.pool.nodes.items) c.loop-place.place c.loop-place.invariant (omega (arith, over, length-map c.loop-place.pool.nodes.items v)))
