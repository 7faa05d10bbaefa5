-- Notes as text.
use Rattle.std.specs.Prelude.{ℕ, List, [], ◌∷◌, ◌++◌, flat_map, codes}
use Rattle.std.specs.Fmt.{decimal}
use Rattle.mem_files.specs.Name.{Bytes}
use Rattle.script_notes.specs.declared.kind.NoteKind.{NoteKind}
use Rattle.script_notes.specs.declared.line_note.LineNote.{LineNote}
use Rattle.script_notes.specs.Notes.{NoteAt}
use Rattle.script_notes.specs.Values.{values_of}
use Rattle.note_texts.specs.Marks.{shown, marks}
use Rattle.note_texts.specs.Sentences.{sentence}

-- `line N: SENTENCE` and LF
abbrev pub head_text : ℕ → NoteKind → Bytes
head_text number kind = codes "line " ++ (decimal number ++ (codes ": " ++ (sentence kind ++ 10 ∷ [])))

-- behind it the line behind two spaces, and marks under its places, behind two spaces too
abbrev pub note_text : NoteAt → Bytes
note_text here =
    head_text here.line here.note.kind ++ (codes "  " ++ (shown here.text ++ (codes "\n  " ++ (marks here.text 0 here.note.spans ++ 10 ∷ []))))

-- of notes, one after the other
abbrev pub notes_text : List NoteAt → Bytes
notes_text notes = flat_map note_text notes

-- of notes that are found
abbrev pub written : List LineNote → Bytes
written notes = notes_text (values_of notes)
