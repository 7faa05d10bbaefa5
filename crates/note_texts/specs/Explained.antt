-- The notes of a script, as text.
use Rattle.std.specs.Prelude.{◌≡◌, List}
use Rattle.mem_files.specs.Name.{Bytes}
use Rattle.script_notes.specs.Notes.{NoteAt}
use Rattle.script_notes.specs.Noted.{IsNoted}
use Rattle.note_texts.specs.Texts.{notes_text}

-- the text of the notes of a script whose lines are fine
pub record IsExplained (bytes text : Bytes) : Type 0 where
  pub notes : List NoteAt
  pub noted : IsNoted bytes notes
  pub is : text ≡ notes_text notes
