use Rattle.std.proofs.Common.{◌≡◌, ◌++◌, replicate}
use Rattle.note_texts.proofs.marks.add_copies.Given as goal

abbrev pub invariant-loop-copy : goal.invariant-loop-copy
invariant-loop-copy l = l.text.items ≡ l.initial.text.items ++ replicate l._copy l.byte
