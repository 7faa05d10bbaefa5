-- The lines whose notes were found are the first of the script.
use Rattle.std.proofs.Common.{◌≡◌, ℕ, ◌+◌, ◌<◌, ◌≤◌, List, [], ◌∷◌, ◌++◌, length, drop, get_or, drop-cons, add-one, Global, refl, sym, ◌∙◌, ap, subst, append_assoc}
use Rattle.std.specs.Prelude.{All, map}
use Rattle.std.specs.List.{AllZip}
use Rattle.std.proofs.lemmas.List.{append-nil, drop_all}
use Rattle.prog_parts.specs.Lines.{IsFirstLine, AreLines}
use Rattle.prog_parts.proofs.Cuts.{one_cut, some_cut}
use Rattle.mem_files.specs.Name.{Bytes}
use Rattle.script_load.specs.declared.line.Line.{Line}
use Rattle.script_load.specs.Line.{ScriptLine, line_of}
use Rattle.script_load.specs.Script.{IsFine, IsLineOf, IsScript}
use Rattle.script_notes.specs.Notes.{Note, NoteAt, notes_at}
use Rattle.script_notes.specs.Noted.{HasNotes, AreNoted, IsNoted}

-- these lines are left, which have the numbers from this one on and begin with the rest; whatever their notes are, these complete the list
pub record IsNotedTo (bytes rest : Bytes) (lines : List ScriptLine) (number : ℕ) (notes : List NoteAt) : Type 0 where
  pub texts : List Bytes
  pub cut : AreLines bytes texts
  pub fine : All IsFine texts
  pub left : List Bytes
  pub left_cut : AreLines rest left
  pub each : AllZip IsLineOf left lines
  pub completes : (later : List NoteAt) → AreNoted number left later → AreNoted 1 texts (notes ++ later)

pub noted_none : (bytes : Bytes) (lines : List ScriptLine) (notes : List NoteAt) → IsScript bytes lines → notes ≡ [] → IsNotedTo bytes bytes lines 1 notes
noted_none bytes lines notes script none = record {
  texts = script.texts;
  cut = script.cut;
  fine = script.fine;
  left = script.texts;
  left_cut = script.cut;
  each = script.each;
  completes = λ later is. subst (λ t. AreNoted 1 script.texts (t ++ later)) (sym none) is;
}

-- where a line is left, the rest has a first line
pub not_over : (bytes rest : Bytes) (line : ScriptLine) (lines : List ScriptLine) (number : ℕ) (notes : List NoteAt) → IsNotedTo bytes rest (line ∷ lines) number notes → rest ≡ [] → ⊥
not_over bytes rest line lines number notes so_far none = over so_far.left so_far.left_cut so_far.each
  where
    over : (left : List Bytes) → AreLines rest left → AllZip IsLineOf left (line ∷ lines) → ⊥
    over [] cut each = absurd each
    over (text ∷ left) cut each = let same : text ∷ left ≡ [] = one_cut rest (text ∷ left) [] cut none in cc

-- that line is the next one
pub next_is : (bytes rest text after : Bytes) (line : ScriptLine) (lines : List ScriptLine) (number : ℕ) (notes : List NoteAt) → IsNotedTo bytes rest (line ∷ lines) number notes → IsFirstLine rest text after → IsLineOf text line
next_is bytes rest text after line lines number notes so_far first = go so_far.left so_far.left_cut so_far.each
  where
    go : (left : List Bytes) → AreLines rest left → AllZip IsLineOf left (line ∷ lines) → IsLineOf text line
    go [] cut each = absurd each
    go (other ∷ left) cut each =
        let later = some_cut after in
        let same : text ∷ later.0 ≡ other ∷ left = one_cut rest (text ∷ later.0) (other ∷ left) (after, first, later.1) cut in
        let head : other ≡ text = cc in
        subst (λ t. IsLineOf t line) head each.0

pub noted_one : (bytes rest text after : Bytes) (line : ScriptLine) (lines : List ScriptLine) (number : ℕ) (notes new : List NoteAt) (found : List Note) → IsNotedTo bytes rest (line ∷ lines) number notes → IsFirstLine rest text after → HasNotes number text line found → new ≡ notes ++ notes_at number text found → IsNotedTo bytes after lines (number + 1) new
noted_one bytes rest text after line lines number notes new found so_far first has added = go so_far.left so_far.left_cut so_far.each so_far.completes
  where
    go : (left : List Bytes) → AreLines rest left → AllZip IsLineOf left (line ∷ lines) → ((later : List NoteAt) → AreNoted number left later → AreNoted 1 so_far.texts (notes ++ later)) → IsNotedTo bytes after lines (number + 1) new
    go [] cut each completes = absurd each
    go (other ∷ left) cut each completes =
        let later = some_cut after in
        let same : text ∷ later.0 ≡ other ∷ left = one_cut rest (text ∷ later.0) (other ∷ left) (after, first, later.1) cut in
        let head : other ≡ text = cc in
        let tail : later.0 ≡ left = cc in
        record {
          texts = so_far.texts;
          cut = so_far.cut;
          fine = so_far.fine;
          left = left;
          left_cut = subst (AreLines after) tail later.1;
          each = each.1;
          completes = λ more is. subst (AreNoted 1 so_far.texts) (sym (ap (λ t. t ++ more) added ∙ append_assoc notes (notes_at number text found) more))
              (completes (notes_at number text found ++ more)
              (found, more, (line, each.0, subst (λ t. HasNotes number t line found) (sym head) has), is, ap (λ t. notes_at number t found ++ more) (sym head)));
        }

pub noted_all : (bytes rest : Bytes) (lines : List ScriptLine) (number : ℕ) (notes : List NoteAt) → lines ≡ [] → IsNotedTo bytes rest lines number notes → IsNoted bytes notes
noted_all bytes rest lines number notes none so_far = go so_far.left (subst (AllZip IsLineOf so_far.left) none so_far.each) so_far.completes
  where
    go : (left : List Bytes) → AllZip IsLineOf left [] → ((later : List NoteAt) → AreNoted number left later → AreNoted 1 so_far.texts (notes ++ later)) → IsNoted bytes notes
    go [] each completes = record {
      texts = so_far.texts;
      cut = so_far.cut;
      fine = so_far.fine;
      noted = subst (AreNoted 1 so_far.texts) (append-nil notes) (completes [] refl);
    }
    go (text ∷ left) each completes = absurd each

-- the line at a place, and those after it
pub line_left : (lines : List (Line Global)) (i : ℕ) (line : Line Global) → i < length lines → line ≡ get_or lines i line → map line_of (drop i lines) ≡ line_of line ∷ map line_of (drop (i + 1) lines)
line_left lines i line inside is =
    ap (map line_of) (drop-cons lines i line inside) ∙ ap (λ j. line_of (get_or lines i line) ∷ map line_of (drop j lines)) (sym (add-one i))
    ∙ ap (λ l. line_of l ∷ map line_of (drop (i + 1) lines)) (sym is)

pub none_left : (lines : List (Line Global)) (i : ℕ) → length lines ≤ i → map line_of (drop i lines) ≡ []
none_left lines i over = ap (map line_of) (drop_all i lines over)
