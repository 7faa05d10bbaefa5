-- Bytes that are put into a block piece by piece.
use Rattle.std.proofs.Common.{◌≡◌, ◌∙◌, ℕ, zero, suc, ◌<◌, false, List, [], ◌∷◌, ◌++◌, length, take, refl, ap, arith, append_assoc}
use Rattle.std.proofs.lemmas.Bool.Decides.{nat_tests}
use Rattle.mem_files.specs.Name.{Name, is_openable}

-- what was cut off at the end stays so
pub cut_again : (n : ℕ) (xs ys : List ℕ) → take n (take n xs ++ ys) ≡ take n (xs ++ ys)
cut_again zero xs ys = refl
cut_again (suc n) [] ys = refl
cut_again (suc n) (x ∷ xs) ys = ap (λ rest. x ∷ rest) (cut_again n xs ys)

pub cut_thrice : (n : ℕ) (a b c d : List ℕ) → take n (take n (take n (take n a ++ b) ++ c) ++ d) ≡ take n (a ++ (b ++ (c ++ d)))
cut_thrice n a b c d =
    cut_again n (take n (take n a ++ b) ++ c) d
    ∙ ap (λ z. take n z) (append_assoc (take n (take n a ++ b)) c d)
    ∙ cut_again n (take n a ++ b) (c ++ d)
    ∙ ap (λ z. take n z) (append_assoc (take n a) b (c ++ d))
    ∙ cut_again n a (b ++ (c ++ d))

-- one more piece
pub more_put : (n : ℕ) (xs ys zs text : List ℕ) → text ≡ take n (xs ++ ys) → take n (text ++ zs) ≡ take n (xs ++ (ys ++ zs))
more_put n xs ys zs text e = ap (λ (t : List ℕ). take n (t ++ zs)) e ∙ cut_again n (xs ++ ys) zs ∙ ap (λ (t : List ℕ). take n t) (append_assoc xs ys zs)

-- a name that doesn't fit a block can't be opened
pub too_long : (name : Name) → 14 < length name → is_openable name ≡ false
too_long name long = grind (arith, nat_tests)

-- a piece that ends in a space
spaced : (ds rest : List ℕ) → (ds ++ 32 ∷ []) ++ rest ≡ ds ++ 32 ∷ rest
spaced ds rest = append_assoc ds (32 ∷ []) rest

-- three counts, each with a space, a name and LF
pub counts_put : (n : ℕ) (l w b name : List ℕ) (one two three four five : List ℕ) →
    one ≡ take n (l ++ 32 ∷ []) → two ≡ take n (one ++ (w ++ 32 ∷ [])) → three ≡ take n (two ++ (b ++ 32 ∷ [])) → four ≡ take n (three ++ name) → five ≡ take n (four ++ 10 ∷ []) →
    five ≡ take n (l ++ 32 ∷ (w ++ 32 ∷ (b ++ 32 ∷ (name ++ 10 ∷ []))))
counts_put n l w b name one two three four five e1 e2 e3 e4 e5 =
    let end = name ++ 10 ∷ [] in
    e5
    ∙ more_put n three name (10 ∷ []) four e4
    ∙ more_put n two (b ++ 32 ∷ []) end three e3
    ∙ ap (λ (t : List ℕ). take n (two ++ t)) (spaced b end)
    ∙ more_put n one (w ++ 32 ∷ []) (b ++ 32 ∷ end) two e2
    ∙ ap (λ (t : List ℕ). take n (one ++ t)) (spaced w (b ++ 32 ∷ end))
    ∙ ap (λ (t : List ℕ). take n (t ++ (w ++ 32 ∷ (b ++ 32 ∷ end)))) e1
    ∙ cut_again n (l ++ 32 ∷ []) (w ++ 32 ∷ (b ++ 32 ∷ end))
    ∙ ap (λ (t : List ℕ). take n t) (spaced l (w ++ 32 ∷ (b ++ 32 ∷ end)))
