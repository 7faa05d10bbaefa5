use Rattle.order_search.proofs.Numbering.{Numbering}
use Rattle.order_search.proofs.parts.entry_numbers.Given as goal

abbrev pub invariant-loop-number : goal.invariant-loop-number
invariant-loop-number l = Numbering l.scratch l.numbers.items l._number
