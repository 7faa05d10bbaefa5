use Rattle.std.proofs.Common.{◌≡◌, ◌++◌, length}
use Rattle.note_texts.specs.Marks.{marks}
use Rattle.note_texts.proofs.marks.add_marks.Given as goal

-- the marks under the places that are left complete those under all
abbrev pub invariant-loop-span : goal.invariant-loop-span
invariant-loop-span l = l.text.items ++ marks l.line l.from l.rest ≡ l.initial.text.items ++ marks l.line 0 l.spans

abbrev pub decreases-loop-span : goal.decreases-loop-span
decreases-loop-span l = length l.rest
