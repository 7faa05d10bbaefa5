use Rattle.std.proofs.Common.{◌≡◌, List, [], ◌∷◌, ◌++◌, map, sym, subst, rules}
use Rattle.std.specs.Prelude.{Any}
use Rattle.closed_search.proofs.Growing.{added}
use Rattle.closed_search.proofs.searching.add.Goals as goal

pub returns-clause-has : goal.returns-clause-has
returns-clause-has g c =
    let v = g.T.Node.state in
    let same : c.keep.new.pool.nodes.items ≡ c.args.pool.now.nodes.items ++ c.args.node ∷ [] = search rules in
    subst (λ (xs : List _). Any (g.T.Node.stands (v c.args.node)) (map v xs)) (sym same) (added v g.T.Node.stands c.args.pool.now.nodes.items c.args.node (g.met.T.Node.itself (v c.args.node)))
