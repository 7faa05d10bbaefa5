-- There are no notes exactly where no line has one.
use Rattle.std.proofs.Common.{◌≡◌, ℕ, ◌+◌, List, [], ◌∷◌, ◌++◌, refl, sym, ◌∙◌, subst}
use Rattle.std.specs.Prelude.{◌↔◌}
use Rattle.mem_files.specs.Name.{Bytes}
use Rattle.script_notes.specs.Notes.{Note, NoteAt, notes_at}
use Rattle.script_notes.specs.Noted.{AreNotes, AreNoted, IsNoted, HaveNoNotes, HasNoNotes}

-- lists that make up no note are empty
nothing_left : (first later : List NoteAt) → [] ≡ first ++ later → (first ≡ []) × (later ≡ [])
nothing_left [] later none = (refl, sym none)
nothing_left (note ∷ first) later none = cc

-- a line whose notes make up no list has none
no_note : (number : ℕ) (text : Bytes) (notes : List Note) → notes_at number text notes ≡ [] → notes ≡ []
no_note number text [] none = refl
no_note number text (note ∷ notes) none = cc

silent : (number : ℕ) (texts : List Bytes) (notes : List NoteAt) → notes ≡ [] → AreNoted number texts notes → HaveNoNotes number texts
silent number [] notes none is = tt
silent number (text ∷ texts) notes none (first, later, here, after, cut) =
    let parts = nothing_left (notes_at number text first) later (sym none ∙ cut) in
    (subst (AreNotes number text) (no_note number text first parts.0) here, silent (number + 1) texts later parts.1 after)

noted_nothing : (number : ℕ) (texts : List Bytes) → HaveNoNotes number texts → AreNoted number texts []
noted_nothing number [] none = refl
noted_nothing number (text ∷ texts) none = ([], [], none.0, noted_nothing (number + 1) texts none.1, refl)

pub no_notes : (bytes : Bytes) → IsNoted bytes [] ↔ HasNoNotes bytes
no_notes bytes = (
  λ noted. record { texts = noted.texts; cut = noted.cut; fine = noted.fine; none = silent 1 noted.texts [] refl noted.noted },
  λ nothing. record { texts = nothing.texts; cut = nothing.cut; fine = nothing.fine; noted = noted_nothing 1 nothing.texts nothing.none },
)
