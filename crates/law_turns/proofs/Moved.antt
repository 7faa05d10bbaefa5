-- A reduced list has every ending of its start: a private turn is taken in every run to an ending, and can be moved to its front.
use Rattle.std.proofs.Common.{◌≡◌, ◌≢◌, ℕ, zero, suc, ◌<◌, ◌≤◌, List, [], ◌∷◌, Bool, true, false, Option, Some, None, inl, inr, length, refl, sym, ap, subst, ◌∙◌, arith}
use Rattle.std.specs.Prelude.{All, Any, slice_index_or, ◌==◌}
use Rattle.std.proofs.lemmas.Bool.{eq-eqb, eqb-true}
use Rattle.kernel_model.specs.Reduced.{turns, IsFollowing, ComesTo, Joins, IsSafe, IsLed, listed, private_turn, GoesOn, IsReduced, IsEnding}

pub of_all : {X : Type 0} (P : X → Type 0) (xs : List X) (i : ℕ) (x : X) → All P xs → i < length xs → slice_index_or xs i x ≡ x → P x
of_all P xs i x all within there = subst P there (all i x within)

pub any_more : {X : Type 0} (P Q : X → Type 0) (xs : List X) → ((x : X) → P x → Q x) → Any P xs → Any Q xs
any_more P Q xs more a = (a.0, a.1, a.2, a.3, more a.1 a.4)

apart : (p q : ℕ) → (p == q) ≡ false → p ≢ q
apart p q is same = absurd (let no : true ≡ false = sym (eq-eqb p q same) ∙ is in let z : ⊥ = cc in z)

module _ {K : Type 0} (turn : K → ℕ → Option K) (does : K → K → Type 0) (private : K → ℕ → Type 0) (can : IsFollowing turn does) (safe : IsSafe turn does private) where
  no_turns : (ps : List ℕ) (m : K) → turns turn None ps ≡ Some m → ⊥
  no_turns [] m is = cc
  no_turns (p ∷ ps) m is = no_turns ps m is

  -- these turns, or some of them, lead from k to a state that does what m does
  pub record Follows (k m : K) (ps : List ℕ) : Type 0 where
    pub rest : List ℕ
    pub short : length rest ≤ length ps
    pub last : K
    pub runs : turns turn (Some k) rest ≡ Some last
    pub like : does last m

  follow_by : (k i m : K) (p : ℕ) (ps : List ℕ) → ((j : K) → does j i → Follows j m ps) → ComesTo turn does k i → Follows k m (p ∷ ps)
  follow_by k i m p ps on (inl like) = let f = on k like in record { rest = f.rest; short = omega (arith, f.short); last = f.last; runs = f.runs; like = f.like }
  follow_by k i m p ps on (inr s) =
      let f = on s.1 s.3 in
      record { rest = s.0 ∷ f.rest; short = omega (arith, f.short); last = f.last; runs = ap (λ (o : Option K). turns turn o f.rest) s.2 ∙ f.runs; like = f.like }

  pub followed : (k l m : K) (ps : List ℕ) → does k l → turns turn (Some l) ps ≡ Some m → Follows k m ps
  followed k l m [] like is =
      let same : l ≡ m = cc in
      record { rest = []; short = omega arith; last = k; runs = refl; like = subst (λ (n : K). does k n) same like }
  followed k l m (p ∷ ps) like is = by (turn l p) refl (λ j i. followed j i m ps) is where
    by : (o : Option K) → turn l p ≡ o → ((j i : K) → does j i → turns turn (Some i) ps ≡ Some m → Follows j m ps) → turns turn o ps ≡ Some m → Follows k m (p ∷ ps)
    by None first on rest = absurd (no_turns ps m rest)
    by (Some i) first on rest = follow_by k i m p ps (λ j one. on j i one rest) (can.follows k l i p like first)

  -- fewer turns lead from a to a state that does what m does
  pub record Front (a m : K) (n : ℕ) : Type 0 where
    pub rest : List ℕ
    pub less : length rest < n
    pub last : K
    pub runs : turns turn (Some a) rest ≡ Some last
    pub like : does last m

  -- another turn before the one of p, by what joins them
  joined : (a l m : K) (p n : ℕ) (j : Joins turn does private a l p) → Front j.both m n → ComesTo turn does a j.both → Front a m (suc n)
  joined a l m p n j f (inl like) =
      let g = followed a j.both f.last f.rest like f.runs in
      record { rest = g.rest; less = omega (arith, f.less, g.short); last = g.last; runs = g.runs; like = can.on g.last f.last m g.like f.like }
  joined a l m p n j f (inr more) =
      let g = followed more.1 j.both f.last f.rest more.3 f.runs in
      record {
        rest = more.0 ∷ g.rest;
        less = omega (arith, f.less, g.short);
        last = g.last;
        runs = ap (λ (o : Option K). turns turn o g.rest) more.2 ∙ g.runs;
        like = can.on g.last f.last m g.like f.like;
      }

  -- a private turn can be taken first
  pub front : (k a m : K) (p : ℕ) (qs : List ℕ) → private k p → turn k p ≡ Some a → turns turn (Some k) qs ≡ Some m → IsEnding turn does private m → Front a m (length qs)
  front k a m p [] mine first is over =
      let same : k ≡ m = cc in
      absurd (over k p mine (subst (λ (n : K). does k n) same (can.itself k)))
  front k a m p (q ∷ qs) mine first is over = by (p == q) refl (turn k q) refl (λ l b. front l b m p qs) is where
    by : (b : Bool) → (p == q) ≡ b → (o : Option K) → turn k q ≡ o
        → ((l b : K) → private l p → turn l p ≡ Some b → turns turn (Some l) qs ≡ Some m → IsEnding turn does private m → Front b m (length qs))
        → turns turn o qs ≡ Some m → Front a m (length (q ∷ qs))
    by true same o second on rest =
        let it : turn k q ≡ Some a = ap (turn k) (sym (eqb-true p q same)) ∙ first in
        let here : turns turn (Some a) qs ≡ Some m = ap (λ (o : Option K). turns turn o qs) (sym it ∙ second) ∙ rest in
        record { rest = qs; less = omega arith; last = m; runs = here; like = can.itself m }
    by false differ None second on rest = absurd (no_turns qs m rest)
    by false differ (Some l) second on rest =
        let j = safe k a l p q mine (apart p q differ) first second in
        joined a l m p (length qs) j (on l j.both j.still j.taken rest over) j.joins

  module _ (seen : List K) (all : All (GoesOn turn does private seen) seen) where
    abbrev Reaches : ℕ → Type 0
    Reaches n = (k m : K) (ps : List ℕ) → length ps < n → IsLed turn does private seen k → turns turn (Some k) ps ≡ Some m → IsEnding turn does private m → Any (λ s. does s m) seen

    -- what does what l does, and l does what m does
    up : (l m : K) → does l m → Any (λ s. does s l) seen → Any (λ s. does s m) seen
    up l m like any = any_more (λ s. does s l) (λ s. does s m) seen (λ s one. can.on s l m one like) any

    ending_up : (l m : K) → does l m → IsEnding turn does private m → IsEnding turn does private l
    ending_up l m like over k p mine one = over k p mine (can.on k l m one like)

    by_one : (n : ℕ) → Reaches n → (k a m : K) (p : ℕ) (ps : List ℕ) → length ps < suc n → private k p → turn k p ≡ Some a → IsLed turn does private seen a → turns turn (Some k) ps ≡ Some m → IsEnding turn does private m → Any (λ s. does s m) seen
    by_one n on k a m p ps short mine first led is over =
        let f = front k a m p ps mine first is over in
        up f.last m f.like (on a f.last f.rest (omega (arith, f.less, short)) led f.runs (ending_up f.last m f.like over))

    -- from a state of the list
    from_seen : (n : ℕ) → Reaches n → (s m : K) (ps : List ℕ) → length ps < suc n → Any (λ t. does t s) seen → GoesOn turn does private seen s → turns turn (Some s) ps ≡ Some m → IsEnding turn does private m → Any (λ t. does t m) seen
    from_seen n on s m [] short here goes is over =
        let same : s ≡ m = cc in
        subst (λ (n : K). Any (λ t. does t n) seen) same here
    from_seen n on s m (p ∷ ps) short here (inr one) is over = by_one n on s one.after m one.pid (p ∷ ps) short one.mine one.taken one.led is over
    from_seen n on s m (p ∷ ps) short here (inl every) is over = by (turn s p) refl is where
      by : (o : Option K) → turn s p ≡ o → turns turn o ps ≡ Some m → Any (λ t. does t m) seen
      by None first rest = absurd (no_turns ps m rest)
      by (Some i) first rest = on i m ps (omega (arith, short)) (every p i first) rest over

    from_led : (n : ℕ) → Reaches n → (k m : K) (ps : List ℕ) → length ps < suc n → IsLed turn does private seen k → turns turn (Some k) ps ≡ Some m → IsEnding turn does private m → Any (λ s. does s m) seen
    from_led n on k m ps short (listed j any) is over =
        let s = any.1 in
        let f = followed s k m ps any.4 is in
        let goes = of_all (GoesOn turn does private seen) seen any.0 s all any.2 any.3 in
        let here : Any (λ t. does t s) seen = (any.0, s, any.2, any.3, can.itself s) in
        up f.last m f.like (from_seen n on s f.last f.rest (omega (arith, short, f.short)) here goes f.runs (ending_up f.last m f.like over))
    from_led n on k m ps short (private_turn j a p mine first led) is over = by_one n on k a m p ps short mine first led is over

    reaches : (n : ℕ) → Reaches n
    reaches zero k m ps short led is over = absurd (omega (arith, short))
    reaches (suc n) k m ps short led is over = from_led n (reaches n) k m ps short led is over

  pub every_ending : (start m : K) (seen : List K) (ps : List ℕ) → IsReduced turn does private start seen → turns turn (Some start) ps ≡ Some m → IsEnding turn does private m → Any (λ s. does s m) seen
  every_ending start m seen ps r is over = reaches seen r.goes_on (suc (length ps)) start m ps (omega arith) r.starts is over
