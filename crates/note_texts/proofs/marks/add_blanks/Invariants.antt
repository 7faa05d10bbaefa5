use Rattle.std.proofs.Common.{◌≡◌, ◌++◌, take, flat_map}
use Rattle.note_texts.specs.Marks.{blank_of}
use Rattle.note_texts.proofs.marks.add_blanks.Given as goal

abbrev pub invariant-loop-letter : goal.invariant-loop-letter
invariant-loop-letter l = l.text.items ≡ l.initial.text.items ++ flat_map blank_of (take l.letter-index l.letter-items)
