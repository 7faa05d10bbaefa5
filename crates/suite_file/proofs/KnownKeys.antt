-- Keys of a table that are known.
use Rattle.std.proofs.Common.{◌≡◌, ℕ, ◌<◌, zero, suc, List, [], ◌∷◌, length, refl, ◌∙◌, ap, arith, map, Bor}
use Rattle.std.specs.Prelude.{Any, Contains, slice_index_or}

known_at : (known : List (Bor (List ℕ))) (key : List ℕ) (k : ℕ) (one : Bor (List ℕ)) → k < length known → slice_index_or known k one ≡ one → one.now ≡ key → Contains (map (λ one. one.now) known) key
known_at [] key k one h at same = absurd (omega (arith, h))
known_at (b ∷ bs) key zero one h at same = (0, omega arith, ap (λ x. x.now) at ∙ same)
known_at (b ∷ bs) key (suc k) one h at same =
    let r = known_at bs key k one (omega (arith, h)) at same in
    (suc r.0, omega (arith, r.1), r.2)

-- it is one of some borrowed keys, so one of the keys
pub known_from : (known : List (Bor (List ℕ))) (key : List ℕ) → Any (λ one. one.now ≡ key) known → Contains (map (λ one. one.now) known) key
known_from known key w = known_at known key w.0 w.1 w.2 w.3 w.4

known_back_at : (known : List (Bor (List ℕ))) (key : List ℕ) (k : ℕ) → k < length (map (λ one. one.now) known) → slice_index_or (map (λ one. one.now) known) k key ≡ key → Any (λ one. one.now ≡ key) known
known_back_at [] key k h at = absurd (omega (arith, h))
known_back_at (b ∷ bs) key zero h at = (0, b, omega arith, refl, at)
known_back_at (b ∷ bs) key (suc k) h at =
    let r = known_back_at bs key k (omega (arith, h)) at in
    (suc r.0, r.1, omega (arith, r.2), r.3, r.4)

-- and the other way round
pub known_back : (known : List (Bor (List ℕ))) (key : List ℕ) → Contains (map (λ one. one.now) known) key → Any (λ one. one.now ≡ key) known
known_back known key w = known_back_at known key w.0 w.1 w.2
