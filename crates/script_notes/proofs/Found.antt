-- No note is found exactly where no line has one.
use Rattle.std.proofs.Common.{◌≡◌, List, [], ◌∷◌, refl, subst}
use Rattle.std.specs.Prelude.{◌↔◌}
use Rattle.mem_files.specs.Name.{Bytes}
use Rattle.script_notes.specs.declared.line_note.LineNote.{LineNote}
use Rattle.script_notes.specs.Noted.{IsNoted, HasNoNotes}
use Rattle.script_notes.specs.Values.{values_of}
use Rattle.script_notes.proofs.NoNotes.{no_notes}
use Rattle.script_notes.proofs.OneList.{one_list}

unfound : (notes : List LineNote) → values_of notes ≡ [] → notes ≡ []
unfound [] none = refl
unfound (note ∷ notes) none = cc

pub none_found : (bytes : Bytes) (notes : List LineNote) → IsNoted bytes (values_of notes) → (notes ≡ []) ↔ HasNoNotes bytes
none_found bytes notes noted = (
  λ none. (no_notes bytes).0 (subst (λ ns. IsNoted bytes (values_of ns)) none noted),
  λ nothing. unfound notes (one_list bytes (values_of notes) [] noted ((no_notes bytes).1 nothing)),
)
