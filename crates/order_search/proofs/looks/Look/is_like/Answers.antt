use Rattle.std.proofs.Common.{rules}
use Rattle.order_search.proofs.Renumbered.{parts_same, same_by}
use Rattle.order_search.proofs.looks.Look.is_like.Goals as goal

pub returns-then-has_same_numbers : goal.returns-then-has_same_numbers
returns-then-has_same_numbers g c = λ is.
    let k = c.args.self.now in
    let l = c.args.other.now in
    same_by k l (search rules) (parts_same _ _ k.entries l.entries (c.has_same_numbers.ensures.slots c.if-has_same_numbers.true) (c.has_same_numbers.ensures.entries c.if-has_same_numbers.true))

pub returns : goal.returns
returns g c = λ is. same_by c.args.self.now c.args.other.now (search rules) (c.is_renumbered.ensures is)
