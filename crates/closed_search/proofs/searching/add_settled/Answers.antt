use Rattle.std.proofs.Common.{map, ◌≡◌, sym, subst}
use Rattle.closed_search.specs.Searched.{HasLike, IsReached, IsLed, listed, IsLonger}
use Rattle.closed_search.proofs.Growing.{if_ok_more, longer_by, led_on, chain_reached}
use Rattle.closed_search.proofs.searching.add_settled.Goals as goal

pub returns-clause-has : goal.returns-clause-has
returns-clause-has g c =
    let v = g.T.Node.state in
    let now = map v c.add.new.pool.nodes.items in
    let s = v c.in_ok-settled.settled in
    if_ok_more (λ _. HasLike g.T.Node.stands now s) (λ _. IsLed g.T.Node.step g.T.Node.stands g.T.Node.private now (v c.args.node)) c.add.result
    (λ _ has. led_on g.T.Node.step g.T.Node.stands g.T.Node.private now (v c.args.node) s c.in_ok-settled.ensures (listed s has)) c.add.ensures.has

pub returns-clause-grown : goal.returns-clause-grown
returns-clause-grown g c =
    let v = g.T.Node.state in
    let old = map v c.args.pool.now.nodes.items in
    let now = map v c.add.new.pool.nodes.items in
    let s = v c.in_ok-settled.settled in
    let P : g.T.Node.State → Type 0 = λ t. t ≡ s in
    let Q : g.T.Node.State → Type 0 = λ t. IsReached g.T.Node.step (v c.args.node) t in
    if_ok_more (λ _. IsLonger P old now) (λ _. IsLonger Q old now) c.add.result
    (λ _ grown. longer_by P Q old now (λ t is. subst Q (sym is) (chain_reached g.T.Node.step g.T.Node.stands g.T.Node.private (v c.args.node) s c.in_ok-settled.ensures)) grown) c.add.ensures.grown
