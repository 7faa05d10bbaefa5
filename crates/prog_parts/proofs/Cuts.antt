-- Bytes are cut into lines in exactly one way.
use Rattle.std.proofs.Common.{◌≡◌, ◌≢◌, ℕ, zero, suc, ◌<◌, List, [], ◌∷◌, ◌++◌, length, length-append, refl, sym, ◌∙◌, ap, subst, arith, inl, inr, ⊎_elim}
use Rattle.std.proofs.str.Laws.{order}
use Rattle.std.specs.Prelude.{All}
use Rattle.prog_parts.specs.Lines.{HasNoLf, IsFirstLine, AreLines}

pub all_tail : {X : Type 0} (P : X → Type 0) (x : X) (xs : List X) → All P (x ∷ xs) → All P xs
all_tail P x xs all k d inside = all (suc k) d (omega arith)

no_lf_split : (l m r s : List ℕ) → HasNoLf l → HasNoLf m → l ++ 10 ∷ r ≡ m ++ 10 ∷ s → (l ≡ m) × (r ≡ s)
no_lf_split [] [] r s no_l no_m same = (refl, cc)
no_lf_split [] (b ∷ m) r s no_l no_m same = let head : b ≡ 10 = cc in absurd (no_m 0 0 (omega arith) head)
no_lf_split (a ∷ l) [] r s no_l no_m same = let head : a ≡ 10 = cc in absurd (no_l 0 0 (omega arith) head)
no_lf_split (a ∷ l) (b ∷ m) r s no_l no_m same =
    let heads : a ≡ b = cc in
    let tails : l ++ 10 ∷ r ≡ m ++ 10 ∷ s = cc in
    let later = no_lf_split l m r s (all_tail (λ b. b ≢ 10) a l no_l) (all_tail (λ b. b ≢ 10) b m no_m) tails in
    let ls = later.0 in
    (cc, later.1)

no_lf_whole : (l r m : List ℕ) → HasNoLf m → l ++ 10 ∷ r ≡ m → ⊥
no_lf_whole [] r [] no_m same = cc
no_lf_whole [] r (b ∷ m) no_m same = let head : b ≡ 10 = cc in no_m 0 0 (omega arith) head
no_lf_whole (a ∷ l) r [] no_m same = cc
no_lf_whole (a ∷ l) r (b ∷ m) no_m same =
    let tails : l ++ 10 ∷ r ≡ m = cc in
    no_lf_whole l r m (all_tail (λ b. b ≢ 10) b m no_m) tails

-- the first line is one
one_first_line : (bytes l m r s : List ℕ) → IsFirstLine bytes l r → IsFirstLine bytes m s → (l ≡ m) × (r ≡ s)
one_first_line bytes l m r s (no_l, inl p) (no_m, inl q) = no_lf_split l m r s no_l no_m (sym p ∙ q)
one_first_line bytes l m r s (no_l, inl p) (no_m, inr q) = absurd (no_lf_whole l r m no_m (sym p ∙ q.0))
one_first_line bytes l m r s (no_l, inr p) (no_m, inl q) = absurd (no_lf_whole m s l no_l (sym q ∙ p.0))
one_first_line bytes l m r s (no_l, inr p) (no_m, inr q) = (sym p.0 ∙ q.0, p.2 ∙ sym q.2)

pub first_line_shorter : (bytes l r : List ℕ) → IsFirstLine bytes l r → length r < length bytes
first_line_shorter bytes l r (no_l, inl p) = omega (arith, ap length p, length-append l (10 ∷ r))
first_line_shorter bytes l r (no_l, inr p) = omega (arith, ap length p.0, ap length p.2)

no_first_line : (l r : List ℕ) → IsFirstLine [] l r → ⊥
no_first_line [] r (no_l, inl p) = cc
no_first_line (a ∷ l) r (no_l, inl p) = cc
no_first_line l r (no_l, inr p) = omega (arith, ap length p.0)

-- a text is cut into lines in one way
pub one_cut : (bytes : List ℕ) (ls ms : List (List ℕ)) → AreLines bytes ls → AreLines bytes ms → ls ≡ ms
one_cut bytes [] [] p q = refl
one_cut bytes [] (m ∷ ms) p q = absurd (no_first_line m q.0 (subst (λ b. IsFirstLine b m q.0) p q.1))
one_cut bytes (l ∷ ls) [] p q = absurd (no_first_line l p.0 (subst (λ b. IsFirstLine b l p.0) q p.1))
one_cut bytes (l ∷ ls) (m ∷ ms) p q =
    let first = one_first_line bytes l m p.0 q.0 p.1 q.1 in
    let later = one_cut p.0 ls ms p.2 (subst (λ r. AreLines r ms) (sym first.1) q.2) in
    let heads = first.0 in
    cc

no_lf_more : (b : ℕ) (l : List ℕ) → b ≢ 10 → HasNoLf l → HasNoLf (b ∷ l)
no_lf_more b l other no_lf zero d inside = other
no_lf_more b l other no_lf (suc k) d inside = no_lf k d (omega arith)

no_lf_none : HasNoLf []
no_lf_none k d inside = absurd (omega arith)

cut_more : (b : ℕ) (bs : List ℕ) → b ≢ 10 → (ls : List (List ℕ)) → AreLines bs ls → (ms : List (List ℕ)) × AreLines (b ∷ bs) ms
cut_more b bs other [] none = ((b ∷ []) ∷ [], ([], (no_lf_more b [] other no_lf_none, inr (ap (λ l. b ∷ l) none, omega arith, refl)), refl))
cut_more b bs other (l ∷ ls) (r, (no_lf, inl p), later) = ((b ∷ l) ∷ ls, (r, (no_lf_more b l other no_lf, inl (ap (λ l. b ∷ l) p)), later))
cut_more b bs other (l ∷ ls) (r, (no_lf, inr p), later) = ((b ∷ l) ∷ ls, (r, (no_lf_more b l other no_lf, inr (ap (λ l. b ∷ l) p.0, omega arith, p.2)), later))

-- every text has lines
pub some_cut : (bytes : List ℕ) → (ls : List (List ℕ)) × AreLines bytes ls
some_cut [] = ([], refl)
some_cut (b ∷ bs) =
    let rest = some_cut bs in
    ⊎_elim
    (λ below. let other : b ≢ 10 = (λ e. omega arith) in cut_more b bs other rest.0 rest.1)
    (λ above. ⊎_elim
    (λ more. let other : b ≢ 10 = (λ e. omega arith) in cut_more b bs other rest.0 rest.1)
    (λ at_most. let is : b ≡ 10 = omega arith in ([] ∷ rest.0, (bs, (no_lf_none, inl (ap (λ x. x ∷ bs) is)), rest.1)))
    (order 10 b))
    (order b 10)
