-- A refusal is kept.
use Rattle.std.proofs.Common.{◌≡◌, true}
use Rattle.figure_words.proofs.markup.Page.add_glyph.Given as goal

abbrev pub invariant-loop-byte : goal.invariant-loop-byte
invariant-loop-byte g l = l.fn.self ≡ true → l.self ≡ true
