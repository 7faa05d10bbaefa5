-- A refusal is kept.
use Rattle.std.proofs.Common.{◌≡◌, true}
use Rattle.figure_words.proofs.markup.Page.add.Given as goal

abbrev pub invariant-loop-piece : goal.invariant-loop-piece
invariant-loop-piece g l = l.fn.self ≡ true → l.self ≡ true
