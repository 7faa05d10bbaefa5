-- Notes that are added one after the other are the notes of the whole list.
use Rattle.std.proofs.Common.{◌≡◌, ℕ, List, ◌++◌, sym, ◌∙◌, ap, append_assoc, Result, Ok, Err}
use Rattle.std.specs.Prelude.{OnOk}
use Rattle.std.proofs.lemmas.List.{map-append}
use Rattle.mem_files.specs.Name.{Bytes}
use Rattle.script_notes.specs.Notes.{Note, NoteAt, notes_at}

-- two lists of notes, one after the other
pub notes_two : (number : ℕ) (text : Bytes) (notes others : List Note) → notes_at number text notes ++ notes_at number text others ≡ notes_at number text (notes ++ others)
notes_two number text notes others = sym (map-append (λ note. record { line = number; text = text; note = note }) notes others)

-- notes were added, and others behind them
pub added_two : (number : ℕ) (text : Bytes) (old middle new : List NoteAt) (notes others : List Note) → middle ≡ old ++ notes_at number text notes → new ≡ middle ++ notes_at number text others → new ≡ old ++ notes_at number text (notes ++ others)
added_two number text old middle new notes others first second =
    second ∙ ap (λ t. t ++ notes_at number text others) first
    ∙ append_assoc old (notes_at number text notes) (notes_at number text others)
    ∙ ap (λ t. old ++ t) (notes_two number text notes others)

-- the first of the notes that complete the list were added
pub added_first : (number : ℕ) (text : Bytes) (whole old new : List NoteAt) (notes later : List Note) → old ++ notes_at number text (notes ++ later) ≡ whole → new ≡ old ++ notes_at number text notes → new ++ notes_at number text later ≡ whole
added_first number text whole old new notes later so_far added =
    ap (λ t. t ++ notes_at number text later) added
    ∙ append_assoc old (notes_at number text notes) (notes_at number text later)
    ∙ ap (λ t. old ++ t) (notes_two number text notes later)
    ∙ so_far

-- what is so where a result is Ok
pub on_ok : {X E P Q : Type 0} (result : Result X E) → (P → Q) → OnOk result P → OnOk result Q
on_ok (Ok x) then so = then so
on_ok (Err e) then so = tt
