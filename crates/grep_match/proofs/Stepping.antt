-- One step of the states over the next byte, and over the text's end.
use Rattle.std.proofs.Common.{◌≡◌, ℕ, zero, suc, ◌+◌, ◌<◌, ◌≤◌, Bool, true, false, not, ◌&&◌, ◌||◌, ◌==◌, cond, List, [], ◌∷◌, ◌++◌, Option, Some, None, length, get_or, take, drop, set, replicate, refl, ap, sym, ◌∙◌, arith}
use Rattle.std.proofs.Math.Bool.{or-false, or-true, or_comm, and_assoc}
use Rattle.std.proofs.Math.Seq.{drop-cons}
use Rattle.std.proofs.lemmas.List.{set_split, drop_more, drop_all}
use Rattle.grep_match.specs.declared.item.Item.{Item}
use Rattle.grep_match.specs.declared.item.Item.TheVariants.{One, Star, End}
use Rattle.grep_match.specs.Pattern.{items_of, is_anchored, pattern_items, stands_for}
use Rattle.grep_match.specs.Match.{can_fit, can_fit_somewhere, matches}
use Rattle.grep_match.specs.States.{alive, comes_through, moved}
use Rattle.grep_match.proofs.Fitting.{one_goes_on, star_at_end, star_goes_on, end_at_end, end_goes_on}
use Rattle.grep_match.proofs.Searching.{somewhere_more}

pub moved_ends : (next : Option ℕ) (reached arrived : Bool) (states : List Bool) (n : ℕ) (left : List ℕ) → n < length states → left ≡ [] → set states n arrived ≡ take n states ++ moved next reached arrived (drop n states) (items_of left)
moved_ends next reached arrived states n left within done =
    set_split states n arrived within
    ∙ (λ i. take n states ++ moved next reached arrived (sym (drop-cons states n false within) i) (items_of (sym done i)))

-- rules of `||` and `&&`
swap : (f z m : Bool) → (f || (z || m)) ≡ ((f || m) || z)
swap true z m = refl
swap false z m = or_comm z m

gather : (h r x a : Bool) → (r && x || (h && x || a)) ≡ ((h || r) && x || a)
gather false false x a = refl
gather false true x a = refl
gather true false x a = refl
gather true true true a = refl
gather true true false a = refl

done : (h r a : Bool) → ((h || r) || a) ≡ ((r && true || h) || a && true)
done false false false = refl
done false false true = refl
done false true a = refl
done true false a = refl
done true true a = refl

by_one : (h r f x a z : Bool) → ((a || ((h || r) && f) && x) || z) ≡ ((r && (f && x) || (h && (f && x) || a)) || z)
by_one h r f x a z =
    ap (λ s. s || z)
    (ap (λ s. a || s) (and_assoc (h || r) f x) ∙ or_comm a ((h || r) && (f && x)) ∙ sym (gather h r (f && x) a))

by_star : (e f x y a z : Bool) → (((e && x || a) || false) || (z || e && f) && y) ≡ ((e && (x || f && y) || a) || z && y)
by_star false f x y a true = ap (λ s. s || y) (or-false a)
by_star false f x y a false = or-false (a || false)
by_star true f true y a z = refl
by_star true true false true true z = refl
by_star true true false true false true = refl
by_star true true false true false false = refl
by_star true true false false true z = refl
by_star true true false false false true = refl
by_star true true false false false false = refl
by_star true false false y true z = refl
by_star true false false y false true = refl
by_star true false false y false false = refl

by_end : (h r x a z : Bool) → (((((h || r) && false) && x || a) || false) || z) ≡ ((r && false || (h && false || a)) || z)
by_end false false x a z = ap (λ s. s || z) (or-false a)
by_end false true x a z = ap (λ s. s || z) (or-false a)
by_end true false x a z = ap (λ s. s || z) (or-false a)
by_end true true x a z = ap (λ s. s || z) (or-false a)

-- a search comes through, or goes on behind the byte
through_or_on : (b : ℕ) (text : List ℕ) (items : List Item) (states : List Bool) (reached arrived : Bool) → length items < length states → (comes_through (Some b) reached states items || alive (moved (Some b) reached arrived states items) items text) ≡ ((reached && can_fit items (b ∷ text) || alive states items (b ∷ text)) || arrived && can_fit items text)
through_or_on b text items [] reached arrived long = absurd (omega (arith, long))
through_or_on b text [] (here ∷ later) reached arrived long = done here reached arrived
through_or_on b text (One c ∷ items) (here ∷ later) reached arrived long =
    let z = arrived && can_fit (One c ∷ items) text in
    swap (comes_through (Some b) false later items) z (alive (moved (Some b) false ((here || reached) && stands_for c b) later items) items text)
    ∙ ap (λ s. s || z) (through_or_on b text items later false ((here || reached) && stands_for c b) (omega (arith, long)))
    ∙ by_one here reached (stands_for c b) (can_fit items text) (alive later items (b ∷ text)) z
    ∙ ap (λ x. (reached && x || (here && x || alive later items (b ∷ text))) || z) (sym (one_goes_on c items b text))
through_or_on b text (Star c ∷ items) (here ∷ later) reached arrived long =
    let y = can_fit (Star c ∷ items) text in
    let e = here || reached in
    let z = (arrived || e && stands_for c b) && y in
    swap (comes_through (Some b) e later items) z (alive (moved (Some b) e false later items) items text)
    ∙ ap (λ s. s || z) (through_or_on b text items later e false (omega (arith, long)))
    ∙ by_star e (stands_for c b) (can_fit items (b ∷ text)) y (alive later items (b ∷ text)) arrived
    ∙ ap (λ s. s || arrived && y) (sym (gather here reached (can_fit items (b ∷ text) || stands_for c b && y) (alive later items (b ∷ text))))
    ∙ ap (λ x. (reached && x || (here && x || alive later items (b ∷ text))) || arrived && y) (sym (star_goes_on c items b text))
through_or_on b text (End ∷ items) (here ∷ later) reached arrived long =
    let z = arrived && can_fit (End ∷ items) text in
    let e = (here || reached) && false in
    swap (comes_through (Some b) e later items) z (alive (moved (Some b) e false later items) items text)
    ∙ ap (λ s. s || z) (through_or_on b text items later e false (omega (arith, long)))
    ∙ by_end here reached (can_fit items (b ∷ text)) (alive later items (b ∷ text)) z
    ∙ ap (λ x. (reached && x || (here && x || alive later items (b ∷ text))) || z) (sym (end_goes_on items b text))

last_done : (h r : Bool) → (h || r) ≡ (h || r && true)
last_done true r = refl
last_done false true = refl
last_done false false = refl

last_one : (h r a : Bool) → (a || false) ≡ ((h && false || a) || r && false)
last_one false false a = refl
last_one false true a = refl
last_one true false a = refl
last_one true true a = refl

last_star : (h r x a : Bool) → (a || (h || r) && x) ≡ ((h && x || a) || r && x)
last_star false r x a = refl
last_star true false x a = or_comm a x ∙ sym (or-false (x || a))
last_star true true true a = or-true a
last_star true true false a = refl

last_end : (h r x a : Bool) → (a || ((h || r) && true) && x) ≡ ((h && x || a) || r && x)
last_end h r x a = ap (λ s. a || s && x) (and_true (h || r)) ∙ last_star h r x a
  where
    and_true : (s : Bool) → (s && true) ≡ s
    and_true true = refl
    and_true false = refl

pub comes_to_end : (items : List Item) (states : List Bool) (reached : Bool) → length items < length states → comes_through None reached states items ≡ (alive states items [] || reached && can_fit items [])
comes_to_end items [] reached long = absurd (omega (arith, long))
comes_to_end [] (here ∷ later) reached long = last_done here reached
comes_to_end (One c ∷ items) (here ∷ later) reached long =
    comes_to_end items later false (omega (arith, long)) ∙ last_one here reached (alive later items [])
comes_to_end (Star c ∷ items) (here ∷ later) reached long =
    comes_to_end items later (here || reached) (omega (arith, long))
    ∙ last_star here reached (can_fit items []) (alive later items [])
    ∙ ap (λ x. (here && x || alive later items []) || reached && x) (sym (star_at_end c items))
comes_to_end (End ∷ items) (here ∷ later) reached long =
    comes_to_end items later ((here || reached) && true) (omega (arith, long))
    ∙ last_end here reached (can_fit items []) (alive later items [])
    ∙ ap (λ x. (here && x || alive later items []) || reached && x) (sym (end_at_end items))

-- a pattern has at least as many bytes as items
few_items : (pattern : List ℕ) → length (items_of pattern) ≤ length pattern
few_items [] = omega arith
few_items (c ∷ []) = omega arith
few_items (c ∷ next ∷ rest) = go (next == 42) (few_items rest) (few_items (next ∷ rest))
  where
    go : (t : Bool) → length (items_of rest) ≤ length rest → length (items_of (next ∷ rest)) ≤ suc (length rest) → length (cond t (Star c ∷ items_of rest) (One c ∷ items_of (next ∷ rest))) ≤ suc (suc (length rest))
    go true few more = omega (arith, few)
    go false few more = omega (arith, more)

begin_again : (s x a w : Bool) → (((s && x || a) || false) || s && w) ≡ (a || s && (x || w))
begin_again false x a w = or-false (a || false)
begin_again true true a w = sym (or-true a)
begin_again true false a w = ap (λ z. z || w) (or-false a)

-- the answer, by what comes through and what goes on
answer : (starts : Bool) (items : List Item) (states : List Bool) (b : ℕ) (text : List ℕ) → length items < length states → ((comes_through (Some b) starts states items || alive (moved (Some b) starts false states items) items text) || starts && can_fit_somewhere items text) ≡ (alive states items (b ∷ text) || starts && can_fit_somewhere items (b ∷ text))
answer starts items states b text long =
    ap (λ z. z || starts && can_fit_somewhere items text) (through_or_on b text items states starts false long)
    ∙ begin_again starts (can_fit items (b ∷ text)) (alive states items (b ∷ text)) (can_fit_somewhere items text)
    ∙ ap (λ z. alive states items (b ∷ text) || starts && z) (sym (somewhere_more items b text))

module _ (starts whole result : Bool) (items : List ℕ) (states after : List Bool) (text : List ℕ) (n : ℕ) (long : length items < length states) where
  few : length (items_of items) < length states
  few = omega (arith, few_items items, long)

  pub goes_on : n < length text → result ≡ comes_through (Some (get_or text n 0)) starts states (items_of items) → after ≡ moved (Some (get_or text n 0)) starts false states (items_of items) → result ≡ false → (alive states (items_of items) (drop n text) || starts && can_fit_somewhere (items_of items) (drop n text)) ≡ whole → (alive after (items_of items) (drop (n + 1) text) || starts && can_fit_somewhere (items_of items) (drop (n + 1) text)) ≡ whole
  goes_on within through moves fails before =
      let is = items_of items in
      let rest = drop (n + 1) text in
      (λ i. ((sym fails ∙ through) i || alive (moves i) is rest) || starts && can_fit_somewhere is rest)
      ∙ answer starts is states (get_or text n 0) rest few
      ∙ sym (ap (λ t. alive states is t || starts && can_fit_somewhere is t) (drop_more text n 0 within))
      ∙ before

  pub came_through : n < length text → result ≡ comes_through (Some (get_or text n 0)) starts states (items_of items) → result ≡ true → (alive states (items_of items) (drop n text) || starts && can_fit_somewhere (items_of items) (drop n text)) ≡ whole → true ≡ whole
  came_through within through holds before =
      let is = items_of items in
      let rest = drop (n + 1) text in
      (λ i. ((sym holds ∙ through) i || alive (moved (Some (get_or text n 0)) starts false states is) is rest) || starts && can_fit_somewhere is rest)
      ∙ answer starts is states (get_or text n 0) rest few
      ∙ sym (ap (λ t. alive states is t || starts && can_fit_somewhere is t) (drop_more text n 0 within))
      ∙ before

  pub at_end : length text ≤ n → result ≡ comes_through None starts states (items_of items) → (alive states (items_of items) (drop n text) || starts && can_fit_somewhere (items_of items) (drop n text)) ≡ whole → result ≡ whole
  at_end over through before =
      let is = items_of items in
      through
      ∙ comes_to_end is states starts few
      ∙ ap (λ z. alive states is [] || starts && z) (sym (or-false (can_fit is [])))
      ∙ sym (ap (λ t. alive states is t || starts && can_fit_somewhere is t) (drop_all n text over))
      ∙ before

none_alive : (n : ℕ) (items : List Item) (text : List ℕ) → alive (replicate n false) items text ≡ false
none_alive zero items text = refl
none_alive (suc n) [] text = refl
none_alive (suc n) (item ∷ items) text = none_alive n items text

first_alive : (anchored : Bool) (n : ℕ) (items : List Item) (text : List ℕ) → alive (anchored ∷ replicate n false) items text ≡ (anchored && can_fit items text)
first_alive true n [] text = refl
first_alive false n [] text = refl
first_alive anchored n (item ∷ items) text =
    ap (λ z. anchored && can_fit (item ∷ items) text || z) (none_alive n items text) ∙ or-false (anchored && can_fit (item ∷ items) text)

chosen : (a x w : Bool) → (a && x || not a && w) ≡ cond a x w
chosen true x w = or-false x
chosen false x w = refl

-- at the text's begin
pub begun_states : (anchored : Bool) (filled : List Bool) (n : ℕ) (items pattern text : List ℕ) → filled ≡ replicate n false → 0 < n → anchored ≡ is_anchored pattern → items_of items ≡ pattern_items pattern → (alive (set filled 0 anchored) (items_of items) text || not anchored && can_fit_somewhere (items_of items) text) ≡ matches pattern text
begun_states anchored filled zero items pattern text fills some anchors splits = absurd (omega (arith, some))
begun_states anchored filled (suc n) items pattern text fills some anchors splits =
    ap (λ z. alive (set z 0 anchored) (items_of items) text || not anchored && can_fit_somewhere (items_of items) text) fills
    ∙ ap (λ z. z || not anchored && can_fit_somewhere (items_of items) text) (first_alive anchored n (items_of items) text)
    ∙ chosen anchored (can_fit (items_of items) text) (can_fit_somewhere (items_of items) text)
    ∙ (λ i. cond (anchors i) (can_fit (splits i) text) (can_fit_somewhere (splits i) text))
