-- What holds of a list of states that grows, as the search finds them.
use Rattle.std.proofs.Common.{◌≡◌, ℕ, zero, suc, ◌+◌, ◌<◌, ◌≤◌, ◌⊎◌, inl, inr, List, [], ◌∷◌, ◌++◌, length, Option, Some, None, refl, sym, ap, subst, ◌∙◌, arith, append_assoc, length-append}
use Rattle.std.specs.Prelude.{All, Any, map, slice_index_or, slice_set, Result, Ok, Err, IfOk}
use Rattle.std.proofs.lemmas.List.{append-nil}
use Rattle.std.proofs.lemmas.List.Elements.{All-append, All-nil}
use Rattle.closed_search.specs.Searched.{IsLedOn, at_first, on, IsLed, listed, privately, IsExpanded, IsReached, here, more as more_steps, IsLonger, IsReducedUnder}

-- how many places are left, from this one down
abbrev pub left_of : Option ℕ → ℕ
left_of None = 0
left_of (Some place) = place + 1

pub at_front : {T : Type 0} (xs ys : List T) (k : ℕ) (d : T) → k < length xs → slice_index_or (xs ++ ys) k d ≡ slice_index_or xs k d
at_front [] ys k d within = absurd (omega arith)
at_front (x ∷ xs) ys zero d within = refl
at_front (x ∷ xs) ys (suc k) d within = at_front xs ys k d (omega arith)

all_more : {T : Type 0} (P Q : T → Type 0) (xs : List T) → ((t : T) → P t → Q t) → All P xs → All Q xs
all_more P Q xs more all k d within = more (slice_index_or xs k d) (all k d within)

pub longer_here : {T : Type 0} (P : T → Type 0) (xs : List T) → IsLonger P xs xs
longer_here P xs = record { rest = []; grown = sym (append-nil xs); each = All-nil P }

pub longer_on : {T : Type 0} (P Q : T → Type 0) (xs ys zs : List T) → IsLonger P xs ys → ((t : T) → Q t → P t) → IsLonger Q ys zs → IsLonger P xs zs
longer_on P Q xs ys zs a more b =
    record {
      rest = a.rest ++ b.rest;
      grown = b.grown ∙ ap (λ (l : List _). l ++ b.rest) a.grown ∙ append_assoc xs a.rest b.rest;
      each = All-append P a.rest b.rest a.each (all_more Q P b.rest more b.each);
    }

pub longer_length : {T : Type 0} (P : T → Type 0) (xs ys : List T) → IsLonger P xs ys → length xs ≤ length ys
longer_length P xs ys a = omega (arith, ap length a.grown, length-append xs a.rest)

pub longer_at : {T : Type 0} (P : T → Type 0) (xs ys : List T) → IsLonger P xs ys → (k : ℕ) (d : T) → k < length xs → slice_index_or ys k d ≡ slice_index_or xs k d
longer_at P xs ys a k d within = ap (λ (l : List _). slice_index_or l k d) a.grown ∙ at_front xs a.rest k d within

pub longer_any : {T : Type 0} (P Q : T → Type 0) (xs ys : List T) → IsLonger P xs ys → Any Q xs → Any Q ys
longer_any P Q xs ys a any =
    let shorter : length xs ≤ length ys = longer_length P xs ys a in
    let within : any.0 < length xs = any.2 in
    (any.0, any.1, omega (arith, shorter, within), longer_at P xs ys a any.0 any.1 any.2 ∙ any.3, any.4)

pub longer_all : {T : Type 0} (P Q : T → Type 0) (xs ys : List T) → IsLonger P xs ys → All Q xs → ((t : T) → P t → Q t) → All Q ys
longer_all P Q xs ys a all more = subst (All Q) (sym a.grown) (All-append Q xs a.rest all (all_more P Q a.rest more a.each))

pub added : {A T : Type 0} (view : A → T) (like : T → T → Type 0) (xs : List A) (x : A) → like (view x) (view x) → Any (like (view x)) (map view (xs ++ x ∷ []))
added view like [] x itself = (0, view x, omega arith, refl, itself)
added view like (y ∷ xs) x itself =
    let a = added view like xs x itself in
    (suc a.0, a.1, omega (arith, a.2), a.3, a.4)

module _ {T : Type 0} (step : T → ℕ → Option T) (like : T → T → Type 0) (private : T → ℕ → Type 0) where
  pub led_more : (P : T → Type 0) (xs ys : List T) (t : T) → IsLonger P xs ys → IsLed step like private xs t → IsLed step like private ys t
  led_more P xs ys t a (listed s any) = listed t (longer_any P (like t) xs ys a any)
  led_more P xs ys t a (privately s u move mine is led) = privately t u move mine is (led_more P xs ys u a led)

  pub led_on : (xs : List T) (first t : T) → IsLedOn step private first t → IsLed step like private xs t → IsLed step like private xs first
  led_on xs first t at_first led = led
  led_on xs first t (on s u move before mine is) led = led_on xs first s before (privately s u move mine is led)

  pub chain_reached : (first t : T) → IsLedOn step private first t → IsReached step first t
  chain_reached first t at_first = here
  chain_reached first t (on s u move before mine is) = more_steps s u move (chain_reached first s before) is

  pub reached_on : (a b c : T) → IsReached step a b → IsReached step b c → IsReached step a c
  reached_on a b c first here = first
  reached_on a b c first (more_steps s t move before is) = more_steps s t move (reached_on a b s first before) is

  pub expanded_on : (P : T → Type 0) (xs ys : List T) (s : T) (n : ℕ) → IsLonger P xs ys → IsExpanded step like private xs s n → IsExpanded step like private ys s n
  expanded_on P xs ys s n a all move t less is = led_more P xs ys t a (all move t less is)

  split : (k n : ℕ) → k < n + 1 → (k < n) ⊎ (k ≡ n)
  split zero zero less = inr refl
  split zero (suc n) less = inl (omega arith)
  split (suc k) zero less = absurd (omega arith)
  split (suc k) (suc n) less = by (split k n (omega arith)) where
    by : (k < n) ⊎ (k ≡ n) → (suc k < suc n) ⊎ (suc k ≡ suc n)
    by (inl before) = inl (omega (arith, before))
    by (inr same) = inr (ap suc same)

  expanded_by : (xs : List T) (s : T) (n move : ℕ) (t : T) → IsExpanded step like private xs s n → ((u : T) → step s n ≡ Some u → IsLed step like private xs u) → (move < n) ⊎ (move ≡ n) → step s move ≡ Some t → IsLed step like private xs t
  expanded_by xs s n move t all last (inl before) is = all move t before is
  expanded_by xs s n move t all last (inr same) is = last t (ap (step s) (sym same) ∙ is)

  pub expanded_next : (xs : List T) (s : T) (n : ℕ) → IsExpanded step like private xs s n → ((t : T) → step s n ≡ Some t → IsLed step like private xs t) → IsExpanded step like private xs s (n + 1)
  expanded_next xs s n all last move t less is = expanded_by xs s n move t all last (split move n less) is

  abbrev pub From : List T → ℕ → T → Type 0
  From xs place t = (d : T) → IsReached step (slice_index_or xs place d) t

  -- while one state is expanded
  pub record Expanding (first now : List T) (place n : ℕ) : Type 0 where
    pub within : place < length now
    pub has : (d : T) → IsExpanded step like private now (slice_index_or first place d) n
    pub grown : IsLonger (From first place) first now

  pub expanding_first : (first : List T) (place : ℕ) → place < length first → Expanding first first place 0
  expanding_first first place within = record { within = within; has = λ d move t less is. absurd (omega arith); grown = longer_here _ first }

  pub expanding_next : (first now after : List T) (place n : ℕ) → place < length first → Expanding first now place n → ((d t : T) → step (slice_index_or now place d) n ≡ Some t → IsLed step like private after t) → IsLonger (From now place) now after → Expanding first after place (n + 1)
  expanding_next first now after place n inside e last more =
      let P : T → Type 0 = From first place in
      let Q : T → Type 0 = From now place in
      let same : (d : T) → slice_index_or now place d ≡ slice_index_or first place d = λ d. longer_at P first now e.grown place d inside in
      let longer : length now ≤ length after = longer_length Q now after more in
      let within : place < length now = e.within in
      record {
        within = omega (arith, longer, within);
        has = λ d. expanded_next after (slice_index_or first place d) n (expanded_on Q now after (slice_index_or first place d) n more (e.has d)) (λ t is. last d t (ap (λ (s : T). step s n) (same d) ∙ is));
        grown = longer_on P Q first now after e.grown (λ t is. λ d. subst (λ (s : T). IsReached step s t) (same d) (is d)) more;
      }

  -- while the list grows: the states before this place are expanded
  pub record Searching (moves : ℕ) (start : T) (seen : List T) (place : ℕ) : Type 0 where
    pub starts : IsLed step like private seen start
    pub goes_on : (k : ℕ) (d : T) → k < place → IsExpanded step like private seen (slice_index_or seen k d) moves
    pub found : All (IsReached step start) seen
    pub within : place ≤ length seen

  pub searching_first : (moves : ℕ) (start settled : T) → like settled settled → IsLedOn step private start settled → Searching moves start (settled ∷ []) 0
  searching_first moves start settled itself chain =
      record {
        starts = led_on (settled ∷ []) start settled chain (listed settled (0, settled, omega arith, refl, itself));
        goes_on = λ k d less. absurd (omega arith);
        found = only;
        within = omega arith;
      } where
        only : All (IsReached step start) (settled ∷ [])
        only zero d within = chain_reached start settled chain
        only (suc k) d within = absurd (omega arith)

  goes_by : (moves : ℕ) (now after : List T) (place k : ℕ) (d : T) → place < length now → (k < place → IsExpanded step like private now (slice_index_or now k d) moves) → ((e : T) → IsExpanded step like private after (slice_index_or now place e) moves) → IsLonger (From now place) now after → (k < place) ⊎ (k ≡ place) → IsExpanded step like private after (slice_index_or after k d) moves
  goes_by moves now after place k d inside before last more (inl less) =
      let P : T → Type 0 = From now place in
      subst (λ (s : T). IsExpanded step like private after s moves) (sym (longer_at P now after more k d (omega (arith, less, inside)))) (expanded_on P now after (slice_index_or now k d) moves more (before less))
  goes_by moves now after place k d inside before last more (inr same) =
      let P : T → Type 0 = From now place in
      subst (λ (s : T). IsExpanded step like private after s moves) (ap (λ (j : ℕ). slice_index_or now j d) (sym same) ∙ sym (longer_at P now after more k d (omega (arith, same, inside)))) (last d)

  pub searching_next : (moves : ℕ) (start : T) (now after : List T) (place : ℕ) → place < length now → Searching moves start now place → ((d : T) → IsExpanded step like private after (slice_index_or now place d) moves) → IsLonger (From now place) now after → Searching moves start after (place + 1)
  searching_next moves start now after place inside s last more =
      let P : T → Type 0 = From now place in
      let longer : length now ≤ length after = longer_length P now after more in
      record {
        starts = led_more P now after start more s.starts;
        goes_on = λ k d less. goes_by moves now after place k d inside (s.goes_on k d) last more (split k place less);
        found = longer_all P (IsReached step start) now after more s.found (λ t is. reached_on start (slice_index_or now place t) t (s.found place t inside) (is t));
        within = omega (arith, longer, inside);
      }

  pub closed : (moves : ℕ) (start : T) (seen : List T) (place : ℕ) → Searching moves start seen place → length seen ≤ place → IsReducedUnder step like private moves start seen
  closed moves start seen place s over = record { starts = s.starts; goes_on = λ k d within. s.goes_on k d (omega (arith, within, over)) }

pub if_ok_more : {A E : Type 0} (P Q : A → Type 0) (r : Result A E) → ((a : A) → P a → Q a) → IfOk r P → IfOk r Q
if_ok_more P Q (Ok a) more is = more a is
if_ok_more P Q (Err e) more is = is

pub longer_by : {T : Type 0} (P Q : T → Type 0) (xs ys : List T) → ((t : T) → P t → Q t) → IsLonger P xs ys → IsLonger Q xs ys
longer_by P Q xs ys more a = record { rest = a.rest; grown = a.grown; each = all_more P Q a.rest more a.each }

pub move_first : {T : Type 0} (step : T → ℕ → Option T) (s t u : T) (move : ℕ) → step s move ≡ Some t → IsReached step t u → IsReached step s u
move_first step s t u move is here = more_steps s t move here is
move_first step s t u move is (more_steps v w n before next) = more_steps v w n (move_first step s t v move is before) next

-- what is written at a place changes nothing that is seen, if it shows the same
pub set_unseen : {A T : Type 0} (view : A → T) (xs : List A) (k : ℕ) (y d : A) → k < length xs → view y ≡ view (slice_index_or xs k d) → map view (slice_set xs k y) ≡ map view xs
set_unseen view [] k y d within same = absurd (omega arith)
set_unseen view (x ∷ xs) zero y d within same = ap (λ (t : _). t ∷ map view xs) same
set_unseen view (x ∷ xs) (suc k) y d within same = ap (λ (l : List _). view x ∷ l) (set_unseen view xs k y d (omega arith) same)

-- a state is listed where it stands for one
pub listed_here : {A T : Type 0} (view : A → T) (stands : T → T → Type 0) (xs : List A) (k : ℕ) (d : A) (t : T) → k < length xs → stands t (view (slice_index_or xs k d)) → Any (stands t) (map view xs)
listed_here view stands [] k d t within is = absurd (omega arith)
listed_here view stands (x ∷ xs) zero d t within is = (0, view x, omega arith, refl, is)
listed_here view stands (x ∷ xs) (suc k) d t within is =
    let a = listed_here view stands xs k d t (omega arith) is in
    (suc a.0, a.1, omega (arith, a.2), a.3, a.4)
