-- Sums over numbers that follow each other, and functions that are changed at one number.
use Rattle.std.proofs.Common.{◌≡◌, ◌≢◌, ◌⊎◌, inl, inr, ℕ, zero, suc, ◌+◌, ◌<◌, ◌≤◌, ◌==◌, Bool, refl, sym, ap, arith}
use Rattle.std.specs.Prelude.{if◌then◌else◌}
use Rattle.std.proofs.lemmas.Bool.{cases_eq, eq-eqb, ne_eqb}

-- ---- a function that is another one but at a number

unfoldable pub put : (ℕ → ℕ) → ℕ → ℕ → ℕ → ℕ
put f i value q = if q == i then value else f q

pub put_here : (f : ℕ → ℕ) (i value : ℕ) → put f i value i ≡ value
unfolding put
put_here f i value = ap (λ (b : Bool). if b then value else f i) (eq-eqb i i refl)

pub put_there : (f : ℕ → ℕ) (i value q : ℕ) → q ≢ i → put f i value q ≡ f q
unfolding put
put_there f i value q ne = ap (λ (b : Bool). if b then value else f q) (ne_eqb q i ne)

-- ---- sums over the n numbers from a on

abbrev pub total : (ℕ → ℕ) → ℕ → ℕ → ℕ
total f a zero = 0
total f a (suc n) = f a + total f (suc a) n

pub total_same : (f h : ℕ → ℕ) (a n : ℕ) → ((q : ℕ) → h q ≡ f q) → total h a n ≡ total f a n
total_same f h a zero same = refl
total_same f h a (suc n) same = omega (arith, same a, total_same f h (suc a) n same)

above : (i a : ℕ) → a ≤ i → i ≢ a → suc a ≤ i
above i a low ne = omega (arith, low, ne)

-- where they differ at one number alone
total_past : (f h : ℕ → ℕ) (i a n : ℕ) → ((q : ℕ) → q ≢ i → h q ≡ f q) → i < a → total h a n ≡ total f a n
total_past f h i a zero same past = refl
total_past f h i a (suc n) same past = omega (arith, same a (λ e. absurd (omega (arith, e, past))), total_past f h i (suc a) n same (omega (arith, past)))

pub total_one : (f h : ℕ → ℕ) (i a n : ℕ) → ((q : ℕ) → q ≢ i → h q ≡ f q) → a ≤ i → i < a + n → total h a n + f i ≡ total f a n + h i
total_one f h i a zero same low high = absurd (omega (arith, low, high))
total_one f h i a (suc n) same low high = by (cases_eq i a) (total_one f h i (suc a) n same)
  where
    by : (i ≡ a) ⊎ (i ≢ a) → (suc a ≤ i → i < suc a + n → total h (suc a) n + f i ≡ total f (suc a) n + h i) → total h a (suc n) + f i ≡ total f a (suc n) + h i
    by (inl is) rest = omega (arith, ap f is, ap h is, total_past f h i (suc a) n same (omega (arith, is)))
    by (inr ne) rest = omega (arith, same a (λ e. ne (sym e)), rest (above i a low ne) (omega (arith, high)))

-- each number has one, and this one another
pub total_least : (f : ℕ → ℕ) (i a n : ℕ) → ((q : ℕ) → a ≤ q → q < a + n → 1 ≤ f q) → a ≤ i → i < a + n → 2 ≤ f i → n + 1 ≤ total f a n
total_least f i a n each low high more = by (total_one f (put f i 1) i a n (put_there f i 1) low high) (put_here f i 1) (some (put f i 1) a n least)
  where
    some : (h : ℕ → ℕ) (a n : ℕ) → ((q : ℕ) → a ≤ q → q < a + n → 1 ≤ h q) → n ≤ total h a n
    some h a zero each = omega arith
    some h a (suc n) each = omega (arith, each a (omega arith) (omega arith), some h (suc a) n (λ q low high. each q (omega (arith, low)) (omega (arith, high))))

    least : (q : ℕ) → a ≤ q → q < a + n → 1 ≤ put f i 1 q
    least q from to = at_q (cases_eq q i)
      where
        at_q : (q ≡ i) ⊎ (q ≢ i) → 1 ≤ put f i 1 q
        at_q (inl is) = omega (arith, ap (put f i 1) is, put_here f i 1)
        at_q (inr ne) = omega (arith, put_there f i 1 q ne, each q from to)

    by : total (put f i 1) a n + f i ≡ total f a n + put f i 1 i → put f i 1 i ≡ 1 → n ≤ total (put f i 1) a n → n + 1 ≤ total f a n
    by moved here least = omega (arith, moved, here, least, more)

-- ---- what is counted only where something else is

abbrev pub where_any : ℕ → ℕ → ℕ
where_any zero value = 0
where_any (suc n) value = value

pub total_where_none : (f h : ℕ → ℕ) (a n : ℕ) → total f a n ≡ 0 → total (λ q. where_any (f q) (h q)) a n ≡ 0
total_where_none f h a zero none = refl
total_where_none f h a (suc n) none =
    omega (arith, ap (λ (x : ℕ). where_any x (h a)) (here (f a) (total f (suc a) n) none), total_where_none f h (suc a) n (omega (arith, none)))
  where
    here : (x y : ℕ) → x + y ≡ 0 → x ≡ 0
    here x y none = omega (arith, none)

pub total_zero : (f : ℕ → ℕ) (a n : ℕ) → ((q : ℕ) → f q ≡ 0) → total f a n ≡ 0
total_zero f a zero none = refl
total_zero f a (suc n) none = omega (arith, none a, total_zero f (suc a) n none)
