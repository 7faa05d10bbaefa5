-- A script has one list of notes: a line is cut, read, parsed and checked in one way.
use Rattle.std.proofs.Common.{◌≡◌, ℕ, ◌+◌, List, [], ◌∷◌, ◌++◌, refl, sym, ◌∙◌, ap, ap₂, subst, arith, inl, inr}
use Rattle.std.specs.Prelude.{All}
use Rattle.std.proofs.lemmas.List.Elements.{All-push}
use Rattle.sh_lexer.specs.declared.token.Token.{Token}
use Rattle.sh_lexer.proofs.Unique.{unique}
use Rattle.sh_tree.specs.Tree.{Tree}
use Rattle.mem_files.specs.Name.{Bytes}
use Rattle.prog_parts.specs.Lines.{HasNoLf, AreLines}
use Rattle.prog_parts.proofs.Cuts.{all_tail, one_cut}
use Rattle.conflict_check.specs.declared.conflict.ClashKind.{ClashKind}
use Rattle.conflict_check.proofs.FirstClash.{not_clear, one_first}
use Rattle.script_load.specs.Line.{ScriptLine, command, bad, cd}
use Rattle.script_load.specs.Script.{IsFine, IsLineOf, IsScript}
use Rattle.script_load.proofs.OneScript.{one_script}
use Rattle.script_notes.specs.Notes.{Note, NoteAt, notes_at}
use Rattle.script_notes.specs.Habits.{token_notes}
use Rattle.script_notes.specs.Letters.{byte_notes}
use Rattle.script_notes.specs.Commands.{command_notes}
use Rattle.script_notes.specs.Whole.{fault_notes, places_of, clash_kind, IsClashNoted}
use Rattle.script_notes.specs.Noted.{HasNotes, AreNotes, AreNoted, IsNoted}

all_none : (P : Bytes → Type 0) → All P []
all_none P k d inside = absurd (omega arith)

-- a text with a LF behind it is the script of its one line
alone : (text : Bytes) (line : ScriptLine) → HasNoLf text → IsFine text → IsLineOf text line → IsScript (text ++ 10 ∷ []) (line ∷ [])
alone text line no_lf fine is = record {
  texts = text ∷ [];
  cut = ([], (no_lf, inl refl), refl);
  fine = All-push IsFine [] text (all_none IsFine) fine;
  each = (is, tt);
}

one_line : (text : Bytes) (line other : ScriptLine) → HasNoLf text → IsFine text → IsLineOf text line → IsLineOf text other → line ≡ other
one_line text line other no_lf fine is also =
    let same : line ∷ [] ≡ other ∷ [] = one_script (text ++ 10 ∷ []) (line ∷ []) (other ∷ []) (alone text line no_lf fine is) (alone text other no_lf fine also) in
    cc

one_clash : (tree : Tree) (text : Bytes) (ts : List Token) (notes others : List Note) → IsClashNoted tree text ts notes → IsClashNoted tree text ts others → notes ≡ others
one_clash tree text ts notes others (inl p) (inl q) = p.1 ∙ sym q.1
one_clash tree text ts notes others (inl p) (inr q) = absurd (not_clear q.2 p.0)
one_clash tree text ts notes others (inr p) (inl q) = absurd (not_clear p.2 q.0)
one_clash tree text ts notes others (inr p) (inr q) =
    let same = one_first p.2 q.2 in
    let note : ClashKind → Bytes → List Note = λ kind name. record { kind = clash_kind kind; spans = places_of text name ts } ∷ [] in
    p.3 ∙ ap₂ note same.0 same.1 ∙ sym q.3

one_line_list : (number : ℕ) (text : Bytes) (line : ScriptLine) (notes others : List Note) → HasNotes number text line notes → HasNotes number text line others → notes ≡ others
one_line_list number text (command tree) notes others (ts, last, list, clash, is) (us, end, also, other, are) =
    let tokens = unique text 0 us ts also list in
    let ends = one_clash tree text ts last end clash (subst (λ ts. IsClashNoted tree text ts end) tokens other) in
    is ∙ ap (λ l. byte_notes number text ++ (token_notes text ts ++ (command_notes text tree [] ts ++ l))) ends
    ∙ ap (λ ts. byte_notes number text ++ (token_notes text ts ++ (command_notes text tree [] ts ++ end))) (sym tokens) ∙ sym are
one_line_list number text (bad fault whole) notes others (ts, list, is) (us, also, are) =
    let tokens = unique text 0 ts us list also in
    is ∙ ap (λ ts. byte_notes number text ++ (token_notes text ts ++ fault_notes text fault)) tokens ∙ sym are
one_line_list number text (cd folder) notes others is are = is ∙ sym are

one_notes : (number : ℕ) (text : Bytes) (notes others : List Note) → HasNoLf text → IsFine text → AreNotes number text notes → AreNotes number text others → notes ≡ others
one_notes number text notes others no_lf fine (line, is, has) (other, also, have) =
    one_line_list number text line notes others has (subst (λ line. HasNotes number text line others) (one_line text other line no_lf fine also is) have)

one_noted : (bytes : Bytes) (number : ℕ) (texts : List Bytes) (notes others : List NoteAt) → AreLines bytes texts → All IsFine texts → AreNoted number texts notes → AreNoted number texts others → notes ≡ others
one_noted bytes number [] notes others cut fine is also = is ∙ sym also
one_noted bytes number (text ∷ texts) notes others (rest, first, cut) fine (these, later, here, after, is) (those, end, there, behind, also) =
    let same = one_notes number text these those first.0 (fine 0 text (omega arith)) here there in
    let ends = one_noted rest (number + 1) texts later end cut (all_tail IsFine text texts fine) after behind in
    is ∙ ap₂ (λ ns l. notes_at number text ns ++ l) same ends ∙ sym also

pub one_list : (bytes : Bytes) (notes others : List NoteAt) → IsNoted bytes notes → IsNoted bytes others → notes ≡ others
one_list bytes notes others noted also =
    let texts = one_cut bytes also.texts noted.texts also.cut noted.cut in
    one_noted bytes 1 noted.texts notes others noted.cut noted.fine noted.noted (subst (λ ts. AreNoted 1 ts others) texts also.noted)
