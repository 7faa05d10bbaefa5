-- A walk passes the slots of a path, and a path is what a walk passes; a path passes no slot twice.
use Rattle.std.proofs.Common.{◌≡◌, ℕ, zero, suc, ◌+◌, ◌<◌, ◌≤◌, List, [], ◌∷◌, Bool, true, false, cond, Some, None, length, get_or, refl, sym, ap, subst, ◌∙◌, arith}
use Rattle.std.proofs.lemmas.Bool.{ltb-true, ltb-false, eqb-true, lt-ltb, le-ltb}
use Rattle.std.specs.Prelude.{nat_lt, nat_eq, ◌==◌, ◌||◌, slice_index, slice_get}
use Rattle.std.specs.List.{IsDistinct, AllByRecursion}
use Rattle.std.proofs.lemmas.Map.Steps.{length-le_from_distinct_below}
use Rattle.slot_lists.specs.Links.{walk, end_of, list_of, lists_from, all_lists, Path, has}

-- what a walk passes is a path to where it ends
pub walked : (n : ℕ) (next : List ℕ) (i e : ℕ) → 64 ≤ e → end_of n next i ≡ e → Path next i (walk n next i) e
unfolding walk end_of
walked zero next i e far is = is
walked (suc n) next i e far is = by (nat_lt i 64) refl (walked n next (slice_index next i) e far) is where
  by : (b : Bool) → nat_lt i 64 ≡ b → (end_of n next (slice_index next i) ≡ e → Path next (slice_index next i) (walk n next (slice_index next i)) e) → cond b (end_of n next (slice_index next i)) i ≡ e → Path next i (cond b (i ∷ walk n next (slice_index next i)) []) e
  by true test rest is = (refl, ltb-true i 64 test, rest is)
  by false test rest is = is

-- a walk along a path that isn't longer
pub walk_is : (n : ℕ) (next : List ℕ) (i : ℕ) (xs : List ℕ) (e : ℕ) → 64 ≤ e → length xs ≤ n → Path next i xs e → (walk n next i ≡ xs) × (end_of n next i ≡ e)
unfolding walk end_of
walk_is zero next i [] e far short path = (refl, path)
walk_is zero next i (x ∷ xs) e far short path = absurd (omega arith)
walk_is (suc n) next i [] e far short path = by (nat_lt i 64) refl where
  by : (b : Bool) → nat_lt i 64 ≡ b → (cond b (i ∷ walk n next (slice_index next i)) [] ≡ []) × (cond b (end_of n next (slice_index next i)) i ≡ e)
  by true test = absurd (omega (arith, ltb-true i 64 test, path))
  by false test = (refl, path)
walk_is (suc n) next i (x ∷ xs) e far short path =
    by (nat_lt i 64) refl (walk_is n next (slice_index next i) xs e far (omega arith) (subst (λ (k : ℕ). Path next (slice_index next k) xs e) (sym path.0) path.2)) where
      by : (b : Bool) → nat_lt i 64 ≡ b → (walk n next (slice_index next i) ≡ xs) × (end_of n next (slice_index next i) ≡ e) → (cond b (i ∷ walk n next (slice_index next i)) [] ≡ x ∷ xs) × (cond b (end_of n next (slice_index next i)) i ≡ e)
      by true test rest = ((λ j. path.0 j ∷ rest.0 j), rest.1)
      by false test rest = absurd (omega (arith, ltb-false i 64 test, path.0, path.1))

-- from one node to one end there is one path
pub one_path : (next : List ℕ) (i : ℕ) (xs ys : List ℕ) (e : ℕ) → 64 ≤ e → Path next i xs e → Path next i ys e → xs ≡ ys
one_path next i [] [] e far p q = refl
one_path next i [] (y ∷ ys) e far p q = absurd (omega (arith, p, q.0, q.1))
one_path next i (x ∷ xs) [] e far p q = absurd (omega (arith, q, p.0, p.1))
one_path next i (x ∷ xs) (y ∷ ys) e far p q =
    let same : x ≡ y = sym p.0 ∙ q.0 in
    λ j. same j ∷ one_path next (slice_index next y) xs ys e far (subst (λ (k : ℕ). Path next (slice_index next k) xs e) same p.2) q.2 j

-- a node that is its own next one is on no path
pub not_stuck : (next : List ℕ) (i : ℕ) (xs : List ℕ) (e : ℕ) → 64 ≤ e → i < 64 → slice_index next i ≡ i → Path next i xs e → ⊥
not_stuck next i [] e far small own p = omega (arith, p)
not_stuck next i (x ∷ xs) e far small own p =
    not_stuck next i xs e far small own (subst (λ (k : ℕ). Path next k xs e) (ap (λ (k : ℕ). slice_index next k) (sym p.0) ∙ own) p.2)

-- a slot on a path is the begin of what is left of it
pub suffix : (next : List ℕ) (i : ℕ) (xs : List ℕ) (e x : ℕ) → Path next i xs e → has xs x ≡ true → (zs : List ℕ) × Path next x (x ∷ zs) e × (length zs < length xs)
suffix next i [] e x path is = absurd (let no : ⊥ = cc in no)
suffix next i (y ∷ ys) e x path is = by (x == y) refl is (suffix next (slice_index next y) ys e x path.2) where
  by : (b : Bool) → (x == y) ≡ b → (b || has ys x) ≡ true → (has ys x ≡ true → (zs : List ℕ) × Path next x (x ∷ zs) e × (length zs < length ys)) → (zs : List ℕ) × Path next x (x ∷ zs) e × (length zs < length (y ∷ ys))
  by true test is later = (ys, subst (λ (k : ℕ). Path next k (k ∷ ys) e) (sym (eqb-true x y test)) (refl, path.1, path.2), omega arith)
  by false test is later = let rest = later is in (rest.0, rest.1, omega (arith, rest.2))

pub path_below : (next : List ℕ) (i : ℕ) (xs : List ℕ) (e x : ℕ) → Path next i xs e → has xs x ≡ true → x < 64
path_below next i xs e x path is = (suffix next i xs e x path is).1.1

not_later : (next : List ℕ) (x : ℕ) (xs : List ℕ) (e : ℕ) → 64 ≤ e → x < 64 → Path next (slice_index next x) xs e → has xs x ≡ false
not_later next x xs e far small path = by (has xs x) refl where
  by : (b : Bool) → has xs x ≡ b → has xs x ≡ false
  by true is =
      let later = suffix next (slice_index next x) xs e x path is in
      let same : x ∷ xs ≡ x ∷ later.0 = one_path next x (x ∷ xs) (x ∷ later.0) e far (refl, small, path) later.1 in
      absurd (omega (arith, ap length same, later.2))
  by false is = is

-- no slot twice
pub all_apart : (x : ℕ) (xs : List ℕ) → has xs x ≡ false → AllByRecursion (λ y. nat_eq x y ≡ false) xs
all_apart x [] none = tt
all_apart x (y ∷ ys) none = by (x == y) refl none (all_apart x ys) where
  by : (b : Bool) → (x == y) ≡ b → (b || has ys x) ≡ false → (has ys x ≡ false → AllByRecursion (λ y. nat_eq x y ≡ false) ys) → AllByRecursion (λ y. nat_eq x y ≡ false) (y ∷ ys)
  by true is none later = absurd (let no : ⊥ = cc in no)
  by false is none later = (is, later none)

pub path_distinct : (next : List ℕ) (i : ℕ) (xs : List ℕ) (e : ℕ) → 64 ≤ e → Path next i xs e → IsDistinct nat_eq xs
unfolding IsDistinct
path_distinct next i [] e far path = tt
path_distinct next i (x ∷ xs) e far path = (all_apart x xs (not_later next x xs e far path.1 path.2), path_distinct next (slice_index next x) xs e far path.2)

-- so at most all of them
pub path_short : (next : List ℕ) (i : ℕ) (xs : List ℕ) (e : ℕ) → 64 ≤ e → Path next i xs e → length xs ≤ 64
path_short next i xs e far path = length-le_from_distinct_below xs 64 (path_distinct next i xs e far path) (λ q is. path_below next i xs e q path is)

pub first_of : (n : ℕ) (next : List ℕ) (i : ℕ) → 0 < n → slice_get (walk n next i) 0 ≡ cond (nat_lt i 64) (Some i) None
unfolding walk
first_of zero next i some = absurd (omega arith)
first_of (suc n) next i some = by (nat_lt i 64) where
  by : (b : Bool) → slice_get (cond b (i ∷ walk n next (slice_index next i)) []) 0 ≡ cond b (Some i) None
  by true = refl
  by false = refl

-- an end that comes right after itself has no slots
pub own_end : (next : List ℕ) (h : ℕ) → get_or next (64 + h) 0 ≡ 64 + h → (list_of next h ≡ []) × (end_of 64 next (get_or next (64 + h) 0) ≡ 64 + h)
unfolding list_of
own_end next h own = walk_is 64 next (get_or next (64 + h) 0) [] (64 + h) (omega arith) (omega arith) own

lists_at : (n h k : ℕ) (next : List ℕ) → k < n → get_or (lists_from n h next) k [] ≡ list_of next (h + k)
unfolding lists_from
lists_at zero h k next lt = absurd (omega arith)
lists_at (suc n) h zero next lt = ap (λ (e : ℕ). list_of next e) (omega arith)
lists_at (suc n) h (suc k) next lt = lists_at n (h + 1) k next (omega arith) ∙ ap (λ (e : ℕ). list_of next e) (omega arith)

pub list_at : (next : List ℕ) (k : ℕ) → k < 72 → get_or (all_lists next) k [] ≡ list_of next k
unfolding all_lists
list_at next k lt = lists_at 72 0 k next lt ∙ ap (λ (e : ℕ). list_of next e) (omega arith)

-- the first slot of a list is the node after its end, where that is a slot
first_by : (next : List ℕ) (k : ℕ) → k < 72 → slice_get (get_or (all_lists next) k []) 0 ≡ cond (nat_lt (get_or next (64 + k) 0) 64) (Some (get_or next (64 + k) 0)) None
unfolding list_of
first_by next k lt = ap (λ (xs : List ℕ). slice_get xs 0) (list_at next k lt) ∙ first_of 64 next (get_or next (64 + k) 0) (omega arith)

pub first_some : (next : List ℕ) (k : ℕ) → k < 72 → get_or next (64 + k) 0 < 64 → slice_get (get_or (all_lists next) k []) 0 ≡ Some (get_or next (64 + k) 0)
first_some next k lt slot = first_by next k lt ∙ ap (λ (b : Bool). cond b (Some (get_or next (64 + k) 0)) None) (lt-ltb (get_or next (64 + k) 0) 64 slot)

pub first_none : (next : List ℕ) (k : ℕ) → k < 72 → 64 ≤ get_or next (64 + k) 0 → slice_get (get_or (all_lists next) k []) 0 ≡ None
first_none next k lt end = first_by next k lt ∙ ap (λ (b : Bool). cond b (Some (get_or next (64 + k) 0)) None) (le-ltb (get_or next (64 + k) 0) 64 end)
