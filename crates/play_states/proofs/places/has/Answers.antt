use Rattle.std.proofs.Common.{◌≡◌, true, sym, subst, map, rules}
use Rattle.std.specs.Prelude.{Contains}
use Rattle.order_search.specs.Told.{outcome_by}
use Rattle.play_states.proofs.Placing.{contains_at}
use Rattle.play_states.proofs.places.has.Goals as goal

pub returns-then-same : goal.returns-then-same
returns-then-same c = λ _.
    let is : c.same.result ≡ true = search rules in
    subst (Contains (map outcome_by c.args.list.now)) (c.same.ensures.0 is) (contains_at outcome_by c.args.list.now c.loop-other.other-index c.other-item.result (search rules) (sym c.other-item.is))
