-- Marks of the tests that pass a check, one test more at a time.
use Rattle.std.proofs.Common.{◌≡◌, ℕ, ◌+◌, ◌<◌, Bool, true, false, List, [], ◌∷◌, ◌++◌, All, cond, get_or, length, take, sym, ap, subst, ◌∙◌, append-nil}
use Rattle.std.specs.List.{AllZip, filter}
use Rattle.std.proofs.lemmas.List.Elements.{All-push, filter_more}
use Rattle.std.proofs.lemmas.Slice.Zip.{all_zipped_more}
use Rattle.grade_tests.specs.declared.test.Loaded.{Loaded}
use Rattle.xvsh_grades.specs.Passed.{HasVerdict}
use Rattle.xvsh_grades.specs.declared.marks.Mark.{Mark}

-- the marks are of the tests that pass, and each is a verdict
pub record AreMarked (p : Loaded → Bool) (R : Loaded → Mark → Type 0) (tests : List Loaded) (marks : List Mark) : Type 0 where
  pub each : AllZip R (filter p tests) marks
  pub judged : All HasVerdict marks

module _ (p : Loaded → Bool) (R : Loaded → Mark → Type 0) (tests : List Loaded) (i : ℕ) (x : Loaded) (inside : i < length tests) (is : x ≡ get_or tests i x) where
  kept : p x ≡ false → filter p (take (i + 1) tests) ≡ filter p (take i tests)
  kept fails =
      filter_more p tests i x inside
      ∙ ap (λ b. filter p (take i tests) ++ cond b (get_or tests i x ∷ []) []) (ap p (sym is) ∙ fails) ∙ append-nil (filter p (take i tests))

  added : p x ≡ true → filter p (take (i + 1) tests) ≡ filter p (take i tests) ++ x ∷ []
  added passes =
      filter_more p tests i x inside
      ∙ ap (λ b. filter p (take i tests) ++ cond b (get_or tests i x ∷ []) []) (ap p (sym is) ∙ passes) ∙ ap (λ t. filter p (take i tests) ++ t ∷ []) (sym is)

  -- a test that doesn't pass has no mark
  pub no_mark : (marks : List Mark) → AreMarked p R (take i tests) marks → p x ≡ false → AreMarked p R (take (i + 1) tests) marks
  no_mark marks before fails = record {
    each = subst (λ ts. AllZip R ts marks) (sym (kept fails)) before.each;
    judged = before.judged;
  }

  -- and one that passes has one
  pub one_mark : (marks more : List Mark) (mark : Mark) → AreMarked p R (take i tests) marks → p x ≡ true → R x mark → HasVerdict mark → more ≡ marks ++ mark ∷ [] → AreMarked p R (take (i + 1) tests) more
  one_mark marks more mark before passes now judged push = record {
    each = subst (λ ts. AllZip R ts more) (sym (added passes)) (subst (AllZip R (filter p (take i tests) ++ x ∷ [])) (sym push) (all_zipped_more R (filter p (take i tests)) marks x mark before.each now));
    judged = subst (All HasVerdict) (sym push) (All-push HasVerdict marks mark before.judged judged);
  }
