-- A refusal is kept.
use Rattle.std.proofs.Common.{◌≡◌, true}
use Rattle.figure_words.proofs.markup.Page.add_bits.Given as goal

abbrev pub invariant-loop-number : goal.invariant-loop-number
invariant-loop-number g l = l.fn.self ≡ true → l.self ≡ true
