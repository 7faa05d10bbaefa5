-- A refusal is kept.
use Rattle.std.proofs.Common.{◌≡◌, true}
use Rattle.figure_words.proofs.markup.Page.fill.Given as goal

abbrev pub invariant-loop-part : goal.invariant-loop-part
invariant-loop-part g l = l.fn.self ≡ true → l.self ≡ true
