-- Elements of lists, one after the other, and what stands where.
use Rattle.std.proofs.Common.{◌≡◌, ◌≢◌, ◌⊎◌, ℕ, zero, suc, ◌+◌, ◌<◌, ◌≤◌, List, [], ◌∷◌, length, get_or, Some, None, inl, inr, refl, sym, ap, subst, ◌∙◌, arith, map}
use Rattle.std.specs.Prelude.{All, Any, Contains, IfSome, Option, slice_get, ◌↔◌}
use Rattle.std.proofs.lemmas.List.{get_or_default}
use Rattle.std.proofs.lemmas.Bool.{cases_eq}
use Rattle.kernel_model.specs.Outcome.{RunOutcome}
use Rattle.play_states.specs.Plays.{IsAt, AreAt, IsOneOf}

-- the first so many elements have what is said
abbrev pub AllBelow : {X : Type 0} → (X → Type 0) → List X → ℕ → Type 0
AllBelow {X} P xs n = (k : ℕ) (d : X) → k < n → P (get_or xs k d)

pub below_more : {X : Type 0} (P : X → Type 0) (xs : List X) (n : ℕ) (x : X) → AllBelow P xs n → n < length xs → get_or xs n x ≡ x → P x → AllBelow P xs (n + 1)
below_more P xs n x all within is here k d less = by (cases_eq k n) where
  by : (k ≡ n) ⊎ (k ≢ n) → P (get_or xs k d)
  by (inl same) = subst (λ (j : ℕ). P (get_or xs j d)) (sym same) (subst P (sym is ∙ get_or_default xs n x d within) here)
  by (inr other) = all k d (omega (arith, less, other))

pub contains_at : {X Y : Type 0} (f : X → Y) (xs : List X) (k : ℕ) (x : X) → k < length xs → get_or xs k x ≡ x → Contains (map f xs) (f x)
contains_at f [] k x within is = absurd (let z : ⊥ = omega (arith, within) in z)
contains_at f (y ∷ ys) zero x within is = (zero, omega arith, ap f is)
contains_at f (y ∷ ys) (suc k) x within is = let more = contains_at f ys k x (omega (arith, within)) is in (suc more.0, omega (arith, more.1), more.2)

-- whatever is said of all of f is said of what is among these
pub all_mapped : {X Y : Type 0} (f : X → Y) (Q : Y → Type 0) (xs : List X) (y : Y) → All (λ x. Q (f x)) xs → Contains (map f xs) y → Q y
all_mapped f Q [] y all has = absurd (let z : ⊥ = omega (arith, has.1) in z)
all_mapped f Q (x ∷ xs) y all (zero, within, is) = subst Q is (all zero x (omega arith))
all_mapped f Q (x ∷ xs) y all (suc k, within, is) = all_mapped f Q xs y (λ i d less. all (suc i) d (omega (arith, less))) (k, omega (arith, within), is)

pub get_mapped : {X Y : Type 0} (f : X → Y) (xs : List X) (k : ℕ) (x : X) → slice_get xs k ≡ Some x → slice_get (map f xs) k ≡ Some (f x)
get_mapped f [] k x is = absurd (let z : ⊥ = cc in z)
get_mapped f (y ∷ ys) zero x is = let same : y ≡ x = cc in ap (λ z. Some (f z)) same
get_mapped f (y ∷ ys) (suc k) x is = get_mapped f ys k x is

-- what is said of each place is said of one that is there
pub all_there : {X : Type 0} (P : X → Type 0) (xs : List X) (x : X) → All P xs → Contains xs x → P x
all_there P xs x all has = subst P has.2 (all has.0 x has.1)

if_there : (o : Option RunOutcome) (P : RunOutcome → Type 0) (x : RunOutcome) → o ≡ Some x → IfSome o P → P x
if_there o P x is holds = let at : IfSome (Some x) P = subst (λ (p : Option RunOutcome). IfSome p P) is holds in at

pub placed : (outcomes found : List RunOutcome) (places : List ℕ) → All (IsOneOf outcomes found) places → ((o : RunOutcome) → Contains found o → IsAt outcomes places o) → AreAt outcomes found places
placed outcomes found places one each o = (each o, λ at. if_there (slice_get outcomes at.0) (Contains found) o at.2 (all_there (IsOneOf outcomes found) places at.0 one at.1))
