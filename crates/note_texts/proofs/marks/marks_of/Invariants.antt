use Rattle.std.proofs.Common.{◌≡◌, take, flat_map}
use Rattle.note_texts.specs.Marks.{mark_of}
use Rattle.note_texts.proofs.marks.marks_of.Given as goal

abbrev pub invariant-loop-letter : goal.invariant-loop-letter
invariant-loop-letter l = l.under.items ≡ flat_map mark_of (take l.letter-index l.letter-items)
