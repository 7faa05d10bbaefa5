-- A refusal is kept.
use Rattle.std.proofs.Common.{◌≡◌, true}
use Rattle.figure_words.proofs.markup.Page.add_within.Given as goal

abbrev pub invariant-loop-glyph : goal.invariant-loop-glyph
invariant-loop-glyph g l = l.fn.self ≡ true → l.self ≡ true
