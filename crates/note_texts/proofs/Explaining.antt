-- A script's notes have one text, and it is empty exactly where there are none, since the text of a note is not empty.
use Rattle.std.proofs.Common.{◌≡◌, List, [], ◌∷◌, refl, sym, ◌∙◌, ap, subst}
use Rattle.std.specs.Prelude.{◌↔◌}
use Rattle.mem_files.specs.Name.{Bytes}
use Rattle.script_notes.specs.declared.line_note.LineNote.{LineNote}
use Rattle.script_notes.specs.Notes.{NoteAt}
use Rattle.script_notes.specs.Noted.{IsNoted, HasNoNotes}
use Rattle.script_notes.specs.Values.{values_of}
use Rattle.script_notes.proofs.NoNotes.{no_notes}
use Rattle.script_notes.proofs.OneList.{one_list}
use Rattle.note_texts.specs.Texts.{notes_text, written}
use Rattle.note_texts.specs.Explained.{IsExplained}

-- notes without a text are none
unwritten : (notes : List NoteAt) → notes_text notes ≡ [] → notes ≡ []
unwritten [] none = refl
unwritten (note ∷ notes) none = cc

pub nothing_to_tell : (bytes : Bytes) → IsExplained bytes [] ↔ HasNoNotes bytes
nothing_to_tell bytes = (
  λ explained. (no_notes bytes).0 (subst (IsNoted bytes) (unwritten explained.notes (sym explained.is)) explained.noted),
  λ nothing. record { notes = []; noted = (no_notes bytes).1 nothing; is = refl },
)

pub one_text : (bytes text other : Bytes) → IsExplained bytes text → IsExplained bytes other → text ≡ other
one_text bytes text other explained also =
    explained.is ∙ ap notes_text (one_list bytes explained.notes also.notes explained.noted also.noted) ∙ sym also.is

-- the text of notes that are a script's
pub explained_by : (bytes : Bytes) (notes : List LineNote) → IsNoted bytes (values_of notes) → IsExplained bytes (written notes)
explained_by bytes notes noted = record { notes = values_of notes; noted = noted; is = refl }
