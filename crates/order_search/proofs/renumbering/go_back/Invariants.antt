use Rattle.std.proofs.Common.{◌≡◌, ℕ, ◌<◌}
use Rattle.order_search.specs.Under.{number_under}
use Rattle.order_search.proofs.renumbering.go_back.Given as goal

abbrev pub invariant-loop-number : goal.invariant-loop-number
invariant-loop-number l = (e : ℕ) → e < l.number → number_under l.back (number_under l.to e) ≡ e
