-- The reasons of names that another line names.
use Rattle.std.proofs.Common.{◌≡◌, ℕ, ◌+◌, ◌<◌, Bool, true, false, not, ◌||◌, ◌&&◌, List, [], ◌∷◌, ◌++◌, length, take, get_or, Option, Some, None, refl, sym, ap, ap₂, subst, zero, suc, arith, ◌∙◌}
use Rattle.std.specs.Prelude.{All, IfSome}
use Rattle.std.specs.List.{list_any}
use Rattle.std.specs.Str.{bytes_eq}
use Rattle.std.proofs.lemmas.Bool.{or_left, or_right}
use Rattle.std.proofs.lemmas.List.Elements.{All-append, All-nil, All-push}
use Rattle.std.proofs.lemmas.List.Folds.{list_any_more}
use Rattle.std.proofs.lemmas.Slice.Eq.{bytes_eq-Decides}
use Rattle.mem_files.specs.Name.{Name}
use Rattle.prog_parts.specs.NameSets.{Names, among}
use Rattle.prog_parts.specs.Program.{is_empty}
use Rattle.script_load.specs.declared.line.Line.{Line}
use Rattle.plain_run.specs.declared.reason.Reason.{Reason}
use Rattle.plain_run.specs.declared.reason.Reason.TheVariants.{CutPipe}
use Rattle.plain_run.specs.Spans.{has_at}
use Rattle.plain_run.specs.Told.{IsBeside, is_beside, beside_reason, is_some}
use Rattle.plain_run.proofs.Spans.{AreOther}

pub empty_append : {X : Type 0} (xs ys : List X) → is_empty (xs ++ ys) ≡ (is_empty xs && is_empty ys)
empty_append [] ys = refl
empty_append (x ∷ xs) ys = refl

-- a name at a place is one of the list
pub among_here : (words : List Name) (i : ℕ) (d : Name) → i < length words → among words (get_or words i d) ≡ true
among_here [] i d inside = absurd (omega arith)
among_here (w ∷ ws) zero d inside = or_left (bytes_eq w w) (among ws w) ((bytes_eq-Decides w w).1 refl)
among_here (w ∷ ws) (suc i) d inside = or_right (bytes_eq (get_or ws i d) w) (among ws (get_or ws i d)) (among_here ws i d (omega arith))

-- one name more
pub each_beside : {A B : _} (lines : List (Line B)) (at : ℕ) (soft : List Name) (name : Name) (other : Option ℕ) (line : ℕ) (reasons : List (Reason A)) → line ≡ at + 1 → among soft name ≡ true → AreOther (has_at lines name) (length lines) at other → All (IsBeside lines at soft) reasons → All (IsBeside lines at soft) (reasons ++ beside_reason line name other)
each_beside {A} lines at soft name None line reasons is among' so each = All-append (IsBeside lines at soft) reasons [] each (All-nil (IsBeside {A = A} lines at soft))
each_beside {A} lines at soft name (Some other) line reasons is among' so each =
    All-push (IsBeside {A = A} lines at soft) reasons (CutPipe line name (other + 1)) each (subst (λ n. IsBeside {A = A} lines at soft (CutPipe n name (other + 1))) (sym is) (is_beside so.inside so.apart among' so.names))

none_more : (a b : Bool) → (not a && not b) ≡ not (a || b)
none_more true b = refl
none_more false b = refl

empty_beside : (A : _) (line : ℕ) (name : Name) (other : Option ℕ) → is_empty (beside_reason {A = A} line name other) ≡ not (is_some other)
empty_beside A line name None = refl
empty_beside A line name (Some other) = refl

pub met_more : {A : _} (those : Names) (soft : List Name) (i : ℕ) (d name : Name) (other : Option ℕ) (line : ℕ) (reasons new : List (Reason A)) → i < length soft → name ≡ get_or soft i d → new ≡ reasons ++ beside_reason line name other → is_some other ≡ those name → is_empty reasons ≡ not (list_any those (take i soft)) → is_empty new ≡ not (list_any those (take (i + 1) soft))
met_more {A} those soft i d name other line reasons new inside here e is so_far =
    ap is_empty e
    ∙ empty_append reasons (beside_reason line name other)
    ∙ ap₂ ◌&&◌ so_far (empty_beside A line name other ∙ ap not (is ∙ ap those here))
    ∙ none_more (list_any those (take i soft)) (those (get_or soft i d))
    ∙ ap not (sym (list_any_more those soft i d inside))

-- a number of a line fits
pub other_fits : (has : ℕ → Bool) (count line : ℕ) (other : Option ℕ) → AreOther has count line other → count < 18446744073709551616 → IfSome other (λ place. place + 1 < 18446744073709551616)
other_fits has count line None so fits = tt
other_fits has count line (Some other) so fits = omega (arith, so.inside, fits)
