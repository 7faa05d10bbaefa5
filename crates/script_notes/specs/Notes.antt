-- Notes of a line.
use Rattle.std.specs.Prelude.{ℕ, Bool, true, false, List, [], ◌∷◌, map}
use Rattle.mem_files.specs.Name.{Bytes}
use Rattle.script_notes.specs.declared.kind.NoteKind.{NoteKind}
use Rattle.script_notes.specs.declared.span.Span.{Span}

-- a note: what it says, and of which places of the line
pub record Note : Type 0 where
  pub kind : NoteKind
  pub spans : List Span

-- a note of the line that has this number, counted from 1, and this text
pub record NoteAt : Type 0 where
  pub line : ℕ
  pub text : Bytes
  pub note : Note

-- notes of that line
abbrev pub notes_at : ℕ → Bytes → List Note → List NoteAt
notes_at number text notes = map (λ note. record { line = number; text = text; note = note }) notes

-- a note of one place
abbrev pub note_of : NoteKind → ℕ → ℕ → Note
note_of kind first past = record { kind = kind; spans = record { first = first; past = past } ∷ [] }

-- that note alone where something holds, and none where it doesn't
abbrev pub note_where : Bool → NoteKind → ℕ → ℕ → List Note
note_where true kind first past = note_of kind first past ∷ []
note_where false kind first past = []
