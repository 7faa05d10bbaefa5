-- Outcomes are reported as kernel after kernel is looked at.
use Rattle.std.proofs.Common.{◌≡◌, ◌≢◌, ℕ, zero, suc, ◌<◌, ◌≤◌, List, [], ◌∷◌, ◌++◌, length, get_or, take, inl, inr, refl, sym, ap, subst, ◌∙◌, arith, map}
use Rattle.std.specs.Prelude.{All, Any, Contains, IfSome, Option, None, Some, slice_index_or}
use Rattle.std.proofs.lemmas.List.{map-append, length-map}
use Rattle.std.proofs.lemmas.List.Elements.{All-append, All-nil}
use Rattle.std.proofs.lemmas.List.Quantifiers.{Any-push, all_pairs_push}
use Rattle.user_calls.specs.declared.calls.Call.{Call}
use Rattle.user_calls.specs.declared.calls.Reply.{Reply}
use Rattle.kernel_model.specs.KernelState.{KernelState}
use Rattle.kernel_model.specs.Events.{IsFinished}
use Rattle.kernel_model.specs.Outcome.{RunOutcome, outcome_of}
use Rattle.kernel_model.specs.Explored.{FinishesWith}
use Rattle.order_search.specs.declared.outcomes.Outcome.{Outcome}
use Rattle.order_search.specs.Told.{outcome_by, IsReplayed, AreApart, IsAddedTo, Tells}

-- ---- what is there

-- of what isn't missing, a value that has what is said of it
pub some_of : {X : Type 0} (P : X → Type 0) (o : Option X) → (o ≡ None → ⊥) → IfSome o P → (x : X) × P x
some_of P None some holds = absurd (some refl)
some_of P (Some x) some holds = (x, holds)

-- ---- lists that grow

pub one_more : {X : Type 0} (P : X → Type 0) (xs : List X) (x : X) → All P xs → P x → All P (xs ++ x ∷ [])
one_more P xs x all here = All-append P xs (x ∷ []) all only where
  only : All P (x ∷ [])
  only zero d within = here
  only (suc k) d within = absurd (let z : ⊥ = omega (arith, within) in z)

contains_on : {X : Type 0} (xs : List X) (y x : X) → Contains xs x → Contains (xs ++ y ∷ []) x
contains_on [] y x has = absurd (let z : ⊥ = omega (arith, has.1) in z)
contains_on (z ∷ xs) y x (zero, within, is) = (zero, omega arith, is)
contains_on (z ∷ xs) y x (suc k, within, is) =
    let more = contains_on xs y x (k, omega (arith, within), is) in
    (suc more.0, omega (arith, more.1), more.2)

contains_last : {X : Type 0} (xs : List X) (y : X) → Contains (xs ++ y ∷ []) y
contains_last [] y = (zero, omega arith, refl)
contains_last (z ∷ xs) y = let more = contains_last xs y in (suc more.0, omega (arith, more.1), more.2)

contains_at : {X Y : Type 0} (f : X → Y) (xs : List X) (k : ℕ) (d : X) → k < length xs → Contains (map f xs) (f (get_or xs k d))
contains_at f [] k d within = absurd (let z : ⊥ = omega (arith, within) in z)
contains_at f (x ∷ xs) zero d within = (zero, omega arith, refl)
contains_at f (x ∷ xs) (suc k) d within = let more = contains_at f xs k d (omega (arith, within)) in (suc more.0, omega (arith, more.1), more.2)

any_on : {X : Type 0} (P : X → Type 0) (xs : List X) (y : X) → Any P xs → Any P (xs ++ y ∷ [])
any_on P [] y any = absurd (let z : ⊥ = omega (arith, any.2) in z)
any_on P (x ∷ xs) y (zero, z, within, is, holds) = (zero, z, omega arith, is, holds)
any_on P (x ∷ xs) y (suc k, z, within, is, holds) =
    let more = any_on P xs y (k, z, omega (arith, within), is, holds) in
    (suc more.0, more.1, omega (arith, more.2), more.3, more.4)

module _ {S : Type 0} (call : S → Reply → Call) (next : S → Reply → S) (start : KernelState S) where
  abbrev Told : List (KernelState S) → List Outcome → Type 0
  Told seen outcomes = Tells call next start seen outcomes

  pub tells_first : Told [] []
  tells_first =
      record {
        of = record { told = All-nil _; only = All-nil _ };
        replayed = All-nil _;
        apart = λ i j d less within. absurd (let z : ⊥ = omega (arith, within) in z);
      }

  module _ (seen : List (KernelState S)) (k : KernelState S) (before after : List Outcome) (was : Told seen before) (here : IsFinished k → Contains (map outcome_by after) (outcome_of k)) where
    more_by : IsAddedTo call next start k before after → Told (seen ++ k ∷ []) after
    more_by (inl same) =
        record {
          of = record {
            told = one_more (λ (j : KernelState S). IsFinished j → Contains (map outcome_by after) (outcome_of j)) seen k (subst (λ (os : List Outcome). All (λ (j : KernelState S). IsFinished j → Contains (map outcome_by os) (outcome_of j)) seen) (sym same) was.of.told) here;
            only = subst (λ (os : List Outcome). All (λ (r : RunOutcome). Any (FinishesWith r) (seen ++ k ∷ [])) (map outcome_by os)) (sym same) (λ i d within. any_on (FinishesWith (slice_index_or (map outcome_by before) i d)) seen k (was.of.only i d within));
          };
          replayed = subst (All (IsReplayed call next start)) (sym same) was.replayed;
          apart = subst AreApart (sym same) was.apart;
        }
    more_by (inr a) =
        let o : Outcome = a.outcome in
        let image : map outcome_by after ≡ map outcome_by before ++ outcome_by o ∷ [] = ap (map outcome_by) a.adds ∙ map-append outcome_by before (o ∷ []) in
        record {
          of = record {
            told = one_more (λ (j : KernelState S). IsFinished j → Contains (map outcome_by after) (outcome_of j)) seen k (λ i d within over. subst (λ (rs : List RunOutcome). Contains rs (outcome_of (slice_index_or seen i d))) (sym image) (contains_on (map outcome_by before) (outcome_by o) (outcome_of (slice_index_or seen i d)) (was.of.told i d within over))) here;
            only = subst (All (λ (r : RunOutcome). Any (FinishesWith r) (seen ++ k ∷ []))) (sym image) (one_more (λ (r : RunOutcome). Any (FinishesWith r) (seen ++ k ∷ [])) (map outcome_by before) (outcome_by o) (λ i d within. any_on (FinishesWith (slice_index_or (map outcome_by before) i d)) seen k (was.of.only i d within)) (Any-push (FinishesWith (outcome_by o)) seen k a.finishes));
          };
          replayed = subst (All (IsReplayed call next start)) (sym a.adds) (one_more (IsReplayed call next start) before o was.replayed a.replayed);
          apart = subst AreApart (sym a.adds) (all_pairs_push (λ (x y : Outcome). outcome_by x ≢ outcome_by y) before o was.apart (λ i d within same. a.new (subst (Contains (map outcome_by before)) same (contains_at outcome_by before i d within))));
        }

    pub tells_next : IsAddedTo call next start k before after → Told (seen ++ k ∷ []) after
    tells_next = more_by

-- ---- which are reported

-- none of the first n outcomes is this one
abbrev pub IsUntold : List Outcome → RunOutcome → ℕ → Type 0
IsUntold outcomes x n = (k : ℕ) (d : Outcome) → k < n → outcome_by (get_or outcomes k d) ≡ x → ⊥

image_at : (outcomes : List Outcome) (k : ℕ) (x : RunOutcome) (d : Outcome) → k < length (map outcome_by outcomes) → get_or (map outcome_by outcomes) k x ≡ outcome_by (get_or outcomes k d)
image_at [] k x d within = absurd (let z : ⊥ = omega (arith, within) in z)
image_at (o ∷ outcomes) zero x d within = refl
image_at (o ∷ outcomes) (suc k) x d within = image_at outcomes k x d (omega (arith, within))

some_outcome : (outcomes : List Outcome) (k : ℕ) → k < length (map outcome_by outcomes) → Outcome
some_outcome [] k within = absurd (let z : ⊥ = omega (arith, within) in z)
some_outcome (o ∷ outcomes) k within = o

pub untold : (outcomes : List Outcome) (x : RunOutcome) → IsUntold outcomes x (length outcomes) → Contains (map outcome_by outcomes) x → ⊥
untold outcomes x none has =
    let d : Outcome = some_outcome outcomes has.0 has.1 in
    none has.0 d (omega (arith, has.1, length-map outcomes outcome_by)) (sym (image_at outcomes has.0 x d has.1) ∙ has.2)

pub told_at : (outcomes : List Outcome) (k : ℕ) (d : Outcome) (x : RunOutcome) → k < length outcomes → outcome_by (get_or outcomes k d) ≡ x → Contains (map outcome_by outcomes) x
told_at outcomes k d x within is = subst (Contains (map outcome_by outcomes)) is (contains_at outcome_by outcomes k d within)

pub whole_take : {X : Type 0} (n : ℕ) (xs : List X) → length xs ≤ n → take n xs ≡ xs
whole_take zero [] le = refl
whole_take zero (x ∷ xs) le = absurd (let z : ⊥ = omega (arith, le) in z)
whole_take (suc n) [] le = refl
whole_take (suc n) (x ∷ xs) le = ap (λ (l : List _). x ∷ l) (whole_take n xs (omega (arith, le)))
