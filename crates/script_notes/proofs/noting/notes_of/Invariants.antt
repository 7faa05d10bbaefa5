use Rattle.std.proofs.Common.{◌+◌, drop}
use Rattle.std.specs.Prelude.{map}
use Rattle.script_load.specs.Line.{line_of}
use Rattle.script_notes.specs.Values.{values_of}
use Rattle.script_notes.proofs.Reading.{IsNotedTo}
use Rattle.script_notes.proofs.noting.notes_of.Given as goal

-- the notes of the lines that are left complete the list
abbrev pub invariant-loop-i : goal.invariant-loop-i
invariant-loop-i l = IsNotedTo l.bytes l.rest (map line_of (drop l.i l.line-items)) (l.i + 1) (values_of l.notes.list.items)
