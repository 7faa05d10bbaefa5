-- Marks of pieces are marks of scripts.
use Rattle.std.proofs.Common.{◌≡◌, List, [], ◌∷◌, ◌++◌, Option, Some, None, IfSome, IsSomeAnd, map, refl, sym, ap, subst, ◌∙◌, append_assoc, append-nil}
use Rattle.std.proofs.lemmas.List.{map-append}
use Rattle.std.specs.List.{AllZip}
use Rattle.std.specs.Option.{option_copied}
use Rattle.mem_files.specs.Name.{Bytes}
use Rattle.xvsh_read.specs.Path.{Path}
use Rattle.grade_tests.specs.declared.test.Loaded.{Loaded}
use Rattle.xvsh_grades.specs.Jobs.{ArePieces, of_none, of_more, IsMarkOf, IsOwnPiece, IsPieceOf, read_of}
use Rattle.xvsh_grades.specs.Marks.{AreMarks, of_script, IsMarkOn, IsOwnMark, IsVerdictOf, ScriptRead}
use Rattle.xvsh_grades.specs.declared.marks.Mark.{Mark}
use Rattle.xvsh_grades.specs.declared.marks.Piece.{Piece}
use Rattle.xvsh_grades.proofs.Joined.{joined}

-- what is said of two lists in a row
pub parted : {A B : Type 0} (R : A → B → Type 0) (xs ys : List A) (zs : List B) → AllZip R (xs ++ ys) zs
    → (first : List B) × (second : List B) × (zs ≡ first ++ second) × AllZip R xs first × AllZip R ys second
parted R [] ys zs h = ([], zs, refl, tt, h)
parted R (x ∷ xs) ys [] h = absurd h
parted R (x ∷ xs) ys (z ∷ zs) h =
    let s = parted R xs ys zs h.1 in
    (z ∷ s.0, s.1, ap (λ t. z ∷ t) s.2, (h.0, s.3), s.4)

mark_on : (path : Option Path) (bytes : Bytes) (own : Loaded) (piece : Piece) (mark : Mark) → IsPieceOf path bytes own piece → IsMarkOf piece mark → IsMarkOn path bytes own mark
mark_on path bytes own piece mark h k = record {
  script = ap option_copied k.script ∙ h.script;
  test = ap (λ t. t.now) k.test ∙ h.test;
  found = subst (λ t. IfSome mark.verdict (IsVerdictOf t bytes)) h.test (subst (λ b. IfSome mark.verdict (IsVerdictOf piece.test.now b)) h.bytes k.found);
}

some_more : {V : Type 0} (o : Option V) (P Q : V → Type 0) → ((v : V) → P v → Q v) → IsSomeAnd o P → IsSomeAnd o Q
some_more None P Q f h = h
some_more (Some v) P Q f h = f v h

own_mark : (own : Loaded) (piece : Piece) (mark : Mark) → IsOwnPiece own piece → IsMarkOf piece mark → IsOwnMark own mark
own_mark own piece mark h k =
    some_more own.script (λ bytes. IsPieceOf None bytes.items own piece) (λ bytes. IsMarkOn None bytes.items own mark) (λ bytes is. mark_on None bytes.items own piece mark is k) h

-- of the tests with a script of their own
pub own_marks : (own : List Loaded) (pieces : List Piece) (found : List Mark) → AllZip IsOwnPiece own pieces → AllZip IsMarkOf pieces found → AllZip IsOwnMark own found
own_marks own pieces found h k = joined IsOwnPiece IsMarkOf IsOwnMark own_mark own pieces found h k

-- of the others on some scripts more
pub judged : (own others : List Loaded) (reads : List ScriptRead) (old : List Mark) → AreMarks own others reads old → {scripts : _} {pieces : List Piece} → ArePieces others scripts pieces
    → (found : List Mark) → AllZip IsMarkOf pieces found → AreMarks own others (reads ++ map read_of scripts) (old ++ found)
judged own others reads old marks of_none [] k =
    subst (λ r. AreMarks own others r (old ++ [])) (sym (append-nil reads)) (subst (AreMarks own others reads) (sym (append-nil old)) marks)
judged own others reads old marks of_none (m ∷ ms) k = absurd k
judged own others reads old marks (of_more {scripts = scripts} {pieces = pieces} script more before each) found k =
    let s = parted IsMarkOf pieces more found k in
    let earlier : AreMarks own others (reads ++ map read_of scripts) (old ++ s.0) = judged own others reads old marks before s.0 s.3 in
    let these = joined (IsPieceOf (Some script.path.now) script.bytes.items) IsMarkOf (IsMarkOn (Some script.path.now) script.bytes.items) (mark_on (Some script.path.now) script.bytes.items) others more s.1 each s.4 in
    let later : AreMarks own others ((reads ++ map read_of scripts) ++ read_of script ∷ []) ((old ++ s.0) ++ s.1) = of_script (read_of script) s.1 earlier these in
    let order : (reads ++ map read_of scripts) ++ read_of script ∷ [] ≡ reads ++ map read_of (scripts ++ script ∷ []) =
    append_assoc reads (map read_of scripts) (read_of script ∷ []) ∙ ap (λ t. reads ++ t) (sym (map-append read_of scripts (script ∷ []))) in
    let all : (old ++ s.0) ++ s.1 ≡ old ++ found = append_assoc old s.0 s.1 ∙ ap (λ t. old ++ t) (sym s.2) in
    subst (λ r. AreMarks own others r (old ++ found)) order (subst (AreMarks own others ((reads ++ map read_of scripts) ++ read_of script ∷ [])) all later)
