-- Notes that are found.
use Rattle.std.specs.Prelude.{List, map}
use Rattle.script_notes.specs.declared.line_note.LineNote.{LineNote}
use Rattle.script_notes.specs.declared.note_list.NoteList.{NoteList}
use Rattle.script_notes.specs.declared.row.Row.{Row}
use Rattle.script_notes.specs.Notes.{Note, NoteAt, notes_at}

abbrev pub value_of : LineNote → NoteAt
value_of note = record { line = note.line; text = note.text.items; note = record { kind = note.kind; spans = note.spans.items } }

abbrev pub values_of : List LineNote → List NoteAt
values_of notes = map value_of notes

-- the notes so far
abbrev pub so_far : NoteList → List NoteAt
so_far notes = values_of notes.list.items

-- notes of a line
abbrev pub notes_on : Row → List Note → List NoteAt
notes_on row notes = notes_at row.number row.text.now notes
