-- The lines of a script are within its limits, and of other lines the first that is not is found.
use Rattle.std.proofs.Common.{◌≡◌, ℕ, suc, ◌+◌, ◌<◌, List, [], ◌∷◌, length, take, drop, get_or, true, false, le-leb, refl, sym, ◌∙◌, ap, arith}
use Rattle.std.specs.Prelude.{All, map}
use Rattle.std.specs.List.{AllZip}
use Rattle.std.proofs.Math.Seq.{split_at}
use Rattle.std.proofs.lemmas.List.{get_or-map, length-map, length-take-le}
use Rattle.std.proofs.lemmas.Bool.{and_from}
use Rattle.std.proofs.lemmas.List.Folds.{list_all_more}
use Rattle.sh_tree.proofs.FewWords.{few_words}
use Rattle.sh_tree.proofs.ShortTree.{short_tree}
use Rattle.prog_parts.proofs.Cuts.{all_tail}
use Rattle.script_load.specs.Limits.{are_small, is_small_line, IsFirstLarge}
use Rattle.script_load.specs.Line.{ScriptLine, command, bad, cd}
use Rattle.script_load.specs.Script.{IsFine, IsLineOf, IsScript}

small_one : (text : List ℕ) (line : ScriptLine) → IsLineOf text line → IsFine text → is_small_line line ≡ true
small_one text (command tree) is fine = and_from _ _ (short_tree text tree fine.0 is.1) (few_words text tree is.1)
small_one text (bad fault whole) is fine = le-leb (length whole) 511 (omega (arith, ap length is.3, fine.0))
small_one text (cd rest) is fine = le-leb (length rest) 511 (omega (arith, ap length is, fine.0))

small_each : (texts : List (List ℕ)) (lines : List ScriptLine) → AllZip IsLineOf texts lines → All IsFine texts → are_small lines ≡ true
small_each [] [] each fine = refl
small_each [] (line ∷ lines) each fine = absurd each
small_each (text ∷ texts) [] each fine = absurd each
small_each (text ∷ texts) (line ∷ lines) each fine =
    and_from (is_small_line line) (are_small lines) (small_one text line each.0 (fine 0 text (omega arith)))
    (small_each texts lines each.1 (all_tail IsFine text texts fine))

pub script_small : (bytes : List ℕ) (lines : List ScriptLine) → IsScript bytes lines → are_small lines ≡ true
script_small bytes lines script = small_each script.texts lines script.each script.fine

-- the line at i, among lines that are seen by f
at : {X : Type 0} (f : X → ScriptLine) (xs : List X) (i : ℕ) (x : X) → i < length xs → x ≡ get_or xs i x → get_or (map f xs) i (f x) ≡ f x
at f xs i x inside is = get_or-map f xs i x (f x) inside ∙ ap f (sym is)

-- one more line is within the limits
pub small_more : {X : Type 0} (f : X → ScriptLine) (xs : List X) (i : ℕ) (x : X) → i < length xs → x ≡ get_or xs i x → are_small (take i (map f xs)) ≡ true → is_small_line (f x) ≡ true → are_small (take (i + 1) (map f xs)) ≡ true
small_more f xs i x inside is before small =
    list_all_more is_small_line (map f xs) i (f x) (omega (arith, inside, length-map xs f))
    ∙ and_from (are_small (take i (map f xs))) (is_small_line (get_or (map f xs) i (f x))) before (ap is_small_line (at f xs i x inside is) ∙ small)

-- the line at i is the first that is not
pub first_large : {X : Type 0} (f : X → ScriptLine) (xs : List X) (i : ℕ) (x : X) → i < length xs → x ≡ get_or xs i x → are_small (take i (map f xs)) ≡ true → is_small_line (f x) ≡ false → IsFirstLarge (map f xs) (i + 1)
first_large f xs i x inside is before large =
    let within : i < length (map f xs) = omega (arith, inside, length-map xs f) in
    record {
      before = take i (map f xs);
      line = get_or (map f xs) i (f x);
      after = drop (suc i) (map f xs);
      split = split_at (map f xs) i (f x) within;
      small = before;
      large = ap is_small_line (at f xs i x inside is) ∙ large;
      number = omega (arith, length-take-le i (map f xs) (omega (arith, within)));
    }
