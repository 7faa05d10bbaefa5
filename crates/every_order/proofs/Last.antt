-- What holds of each element holds of the last, and the other way.
use Rattle.std.proofs.Common.{◌≡◌, ◌<◌, ◌++◌, ℕ, zero, suc, List, [], ◌∷◌, length, Option, Some, None, subst, arith}
use Rattle.std.specs.Prelude.{All, IfSome}
use Rattle.std.specs.Option.{option_to_list}

last_in : {X : Type 0} (P : X → Type 0) (xs : List X) (x : X) → All P (xs ++ x ∷ []) → P x
last_in P [] x all = all zero x (omega arith)
last_in P (y ∷ xs) x all = last_in P xs x (λ k d within. all (suc k) d (omega (arith, within)))

pub last_of : {X : Type 0} (P : X → Type 0) (xs ys : List X) (o : Option X) → xs ≡ ys ++ option_to_list o → All P xs → IfSome o P
last_of P xs ys None are all = tt
last_of P xs ys (Some x) are all = last_in P ys x (subst (All P) are all)

pub all_of : {X : Type 0} (P : X → Type 0) (o : Option X) → IfSome o P → All P (option_to_list o)
all_of P None holds k d within = absurd (let z : ⊥ = omega (arith, within) in z)
all_of P (Some x) holds zero d within = holds
all_of P (Some x) holds (suc k) d within = absurd (let z : ⊥ = omega (arith, within) in z)
