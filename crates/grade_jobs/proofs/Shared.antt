-- A verdict on a job is one on the same work, and lists of verdicts grow.
use Rattle.std.proofs.Common.{◌≡◌, ℕ, ◌+◌, ◌<◌, List, [], ◌∷◌, ◌++◌, length, get_or, take, sym, ap, subst, ◌∙◌}
use Rattle.std.specs.List.{AllZip}
use Rattle.std.proofs.lemmas.List.{take_more}
use Rattle.std.proofs.lemmas.Slice.Zip.{all_zipped_more}
use Rattle.grade_verdicts.specs.Judged.{IsJudged}
use Rattle.grade_verdicts.specs.Same.{IsCopyOf}
use Rattle.grade_verdicts.specs.declared.verdict.Verdict.{Verdict}
use Rattle.grade_verdicts.proofs.Shared.{shared}
use Rattle.grade_jobs.specs.Ways.{RunsRightInEveryWay}
use Rattle.grade_jobs.proofs.SharedWays.{shared_ways}
use Rattle.grade_jobs.specs.Judges.{IsSameJob, IsVerdictOn}
use Rattle.grade_jobs.specs.declared.judging.Job.{Job}

-- what is due of one is due of the other
pub shared_job : (one other : Job) (verdict copy : Verdict) → IsSameJob one other → IsCopyOf verdict copy → IsVerdictOn one verdict → IsVerdictOn other copy
shared_job one other verdict copy same is due = record {
  due = subst (λ bytes. IsJudged other.task bytes copy) same.bytes (shared one.task other.task one.bytes.now verdict copy same.task is due.due);
  ways = λ asked. subst (λ bytes. RunsRightInEveryWay other.task bytes copy) same.bytes (shared_ways one.task other.task one.bytes.now verdict copy same.task is (due.ways (same.every_way ∙ asked)));
}

-- one item more on both sides
pub one_more : {A B : Type 0} (R : A → B → Type 0) (xs : List A) (ys more : List B) (n : ℕ) (x : A) (y : B)
    → n < length xs → x ≡ get_or xs n x → AllZip R (take n xs) ys → R x y → more ≡ ys ++ y ∷ [] → AllZip R (take (n + 1) xs) more
one_more R xs ys more n x y within is before now added =
    let front : take (n + 1) xs ≡ take n xs ++ x ∷ [] = take_more xs n x within ∙ ap (λ z. take n xs ++ z ∷ []) (sym is) in
    subst (λ zs. AllZip R zs more) (sym front) (subst (AllZip R (take n xs ++ x ∷ [])) (sym added) (all_zipped_more R (take n xs) ys x y before now))
