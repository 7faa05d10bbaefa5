-- A pair has one weight.
use Rattle.std.proofs.Common.{arith, ◌≡◌, ◌≢◌, ◌⊎◌, ◌↔◌, ℕ, ◌+◌, ◌<◌, ◌≤◌, Bool, true, false, IsTrue, List, Some, inl, inr, refl, sym, subst, ◌∙◌}
use Rattle.std.proofs.lemmas.Bool.{cases_eq}
use Rattle.order_search.specs.declared.outcomes.Outcome.{Outcome}
use Rattle.script_outcomes.specs.declared.contrast.Contrast.{Contrast}
use Rattle.script_outcomes.specs.declared.pair.Pair.{Pair}
use Rattle.script_outcomes.specs.Contrast.{IsContrast, weight_of}
use Rattle.script_outcomes.specs.Pairs.{Weighs, IsLeastWith}

same_truth : {P : Type 0} (b c : Bool) → IsTrue b ↔ P → IsTrue c ↔ P → b ≡ c
same_truth true true p q = refl
same_truth false false p q = refl
same_truth true false p q = let clash : false ≡ true = q.1 (p.0 refl) in absurd (let z : ⊥ = cc in z)
same_truth false true p q = let clash : false ≡ true = p.1 (q.0 refl) in absurd (let z : ⊥ = cc in z)

same_weight : (a b : Outcome) (c d : Contrast) → IsContrast a b c → IsContrast a b d → weight_of c ≡ weight_of d
same_weight a b c d p q =
    let output = same_truth c.is_same_output d.is_same_output p.output q.output in
    let diagnostics = same_truth c.has_other_diagnostics d.has_other_diagnostics p.diagnostics q.diagnostics in
    let files = same_truth c.has_other_files d.has_other_files p.files q.files in
    let full = same_truth c.is_other_full d.is_other_full p.full q.full in
    let talk = same_truth c.has_diagnostics d.has_diagnostics p.talk q.talk in
    let torn = same_truth c.is_torn d.is_torn p.torn q.torn in
    λ i. weight_of (record { is_same_output = output i; has_other_diagnostics = diagnostics i; has_other_files = files i; is_other_full = full i; has_diagnostics = talk i; is_torn = torn i })

pub one_weight : (outcomes : List Outcome) (pair : Pair) (m n : ℕ) → Weighs outcomes pair m → Weighs outcomes pair n → m ≡ n
one_weight outcomes pair m n p q =
    let first : Some p.one ≡ Some q.one = sym p.first ∙ q.first in
    let one : p.one ≡ q.one = cc in
    let other : Some p.two ≡ Some q.two = sym p.other ∙ q.other in
    let two : p.two ≡ q.two = cc in
    p.same ∙ (same_weight q.one q.two p.contrast q.contrast (subst (λ (x : Outcome). IsContrast x q.two p.contrast) one (subst (λ (y : Outcome). IsContrast p.one y p.contrast) two p.is)) q.is ∙ sym q.same)

-- one more first place
pub least_on : (outcomes : List Outcome) (other before weight next : ℕ) → IsLeastWith outcomes other before weight → Weighs outcomes (record { first = before; other = other }) next → (now : ℕ) → now ≤ weight → now ≤ next → IsLeastWith outcomes other (before + 1) now
least_on outcomes other before weight next least weighs now below low first n in_it known = by (cases_eq first before) where
  by : (first ≡ before) ⊎ (first ≢ before) → now ≤ n
  by (inr ne) = let some = least first n (omega (arith, in_it, ne)) known in omega (arith, some, below)
  by (inl here) = let same = one_weight outcomes (record { first = before; other = other }) next n weighs (subst (λ (f : ℕ). Weighs outcomes (record { first = f; other = other }) n) here known) in omega (arith, same, low)

-- each pair whose other place is one of the first so many
abbrev pub IsLeastBefore : List Outcome → ℕ → ℕ → Type 0
IsLeastBefore outcomes count weight = (other : ℕ) → other < count → IsLeastWith outcomes other other weight

pub before_on : (outcomes : List Outcome) (count weight now : ℕ) → IsLeastBefore outcomes count weight → now ≤ weight → IsLeastWith outcomes count count now → IsLeastBefore outcomes (count + 1) now
before_on outcomes count weight now least below here other in_it = by (cases_eq other count) where
  by : (other ≡ count) ⊎ (other ≢ count) → IsLeastWith outcomes other other now
  by (inr ne) = λ first n near known. let some = least other (omega (arith, in_it, ne)) first n near known in omega (arith, some, below)
  by (inl same) = subst (λ (o : ℕ). IsLeastWith outcomes o o now) (sym same) here
