-- How marks go on over an item, and what they say where no item is left.
use Rattle.std.proofs.Common.{◌≡◌, ℕ, suc, ◌+◌, ◌<◌, Bool, true, false, ◌&&◌, ◌||◌, List, [], ◌∷◌, length, get_or, take, refl, ap, sym, ◌∙◌, arith, replicate, cond, not, set}
use Rattle.std.proofs.Math.Bool.{or-false, and-false, or_assoc, and_assoc}
use Rattle.std.specs.List.{list_any}
use Rattle.grep_match.specs.declared.item.Item.{Item}
use Rattle.grep_match.specs.declared.item.Item.TheVariants.{One, Star, End}
use Rattle.grep_match.specs.Pattern.{stands_for, items_of, is_anchored, pattern_items}
use Rattle.grep_match.specs.Match.{cuts, can_fit, can_fit_somewhere, matches}
use Rattle.grep_match.specs.Places.{leads, before_byte, behind_bytes}
use Rattle.grep_match.proofs.Fitting.{list_any-map, with_byte, one_goes_on, star_at_end, star_goes_on, end_goes_on}

pub one_leads : (c : ℕ) (items : List Item) (marks : List Bool) (b : ℕ) (text : List ℕ) → length text + 1 < length marks → leads (before_byte c marks (b ∷ text)) items text ≡ leads marks (One c ∷ items) (b ∷ text)
one_leads c items [] b text long = absurd (omega (arith, long))
one_leads c items (here ∷ []) b text long = absurd (omega (arith, long))
one_leads c items (here ∷ next ∷ later) b [] long =
    and_assoc here (stands_for c b) (can_fit items [])
    ∙ ap (λ z. here && z) (sym (one_goes_on c items b []))
    ∙ sym (or-false (here && can_fit (One c ∷ items) (b ∷ [])))
    ∙ ap (λ z. here && can_fit (One c ∷ items) (b ∷ []) || z) (sym (and-false next))
one_leads c items (here ∷ later) b (b' ∷ text) long =
    (λ i. (and_assoc here (stands_for c b) (can_fit items (b' ∷ text)) ∙ ap (λ z. here && z) (sym (one_goes_on c items b (b' ∷ text)))) i
    || one_leads c items later b' text (omega (arith, long)) i)

-- no byte is left for one
pub one_never_leads : (c : ℕ) (items : List Item) (marks : List Bool) → leads marks (One c ∷ items) [] ≡ false
one_never_leads c items [] = refl
one_never_leads c items (here ∷ later) = and-false here

star_step : (h a F x L : Bool) → ((h || a) && F || ((h || a) && x || L)) ≡ (a && (F || x) || (h && (F || x) || L))
star_step false false F x L = refl
star_step false true F x L = sym (or_assoc F x L)
star_step true false F x L = sym (or_assoc F x L)
star_step true true true x L = refl
star_step true true false true L = refl
star_step true true false false L = refl

star_last : (h a F : Bool) → ((h || a) && F) ≡ (a && F || h && F)
star_last false false F = refl
star_last false true F = sym (or-false F)
star_last true false F = refl
star_last true true true = refl
star_last true true false = refl

pub star_leads : (c : ℕ) (items : List Item) (carried : Bool) (marks : List Bool) (text : List ℕ) → length text < length marks → leads (behind_bytes c carried marks text) items text ≡ (carried && can_fit (Star c ∷ items) text || leads marks (Star c ∷ items) text)
star_leads c items carried [] text long = absurd (omega (arith, long))
star_leads c items carried (here ∷ later) [] long =
    star_last here carried (can_fit items []) ∙ ap (λ z. carried && z || here && z) (sym (star_at_end c items))
star_leads c items carried (here ∷ later) (b ∷ text) long =
    ap (λ z. (here || carried) && can_fit items (b ∷ text) || z)
    (star_leads c items ((here || carried) && stands_for c b) later text (omega (arith, long))
    ∙ ap (λ z. z || leads later (Star c ∷ items) text) (and_assoc (here || carried) (stands_for c b) (can_fit (Star c ∷ items) text)))
    ∙ star_step here carried (can_fit items (b ∷ text)) (stands_for c b && can_fit (Star c ∷ items) text) (leads later (Star c ∷ items) text)
    ∙ ap (λ z. carried && z || (here && z || leads later (Star c ∷ items) text)) (sym (star_goes_on c items b text))

-- the end is fitted at the last place alone
pub end_leads : (marks : List Bool) (text : List ℕ) → length text < length marks → leads marks (End ∷ []) text ≡ get_or marks (length text) false
end_leads [] text long = absurd (omega (arith, long))
end_leads (true ∷ later) [] long = refl
end_leads (false ∷ later) [] long = refl
end_leads (here ∷ later) (b ∷ text) long =
    ap (λ z. here && z || leads later (End ∷ []) text) (end_goes_on [] b text)
    ∙ ap (λ z. z || leads later (End ∷ []) text) (and-false here)
    ∙ end_leads later text (omega (arith, long))

mark_alone : (is_mark : Bool → Bool) → is_mark true ≡ true → is_mark false ≡ false → (here : Bool) → (here && true) ≡ (is_mark here || false)
mark_alone is_mark holds fails true = ap (λ z. z || false) (sym holds)
mark_alone is_mark holds fails false = ap (λ z. z || false) (sym fails)

-- no item is left: a mark is enough
pub none_leads : (is_mark : Bool → Bool) → is_mark true ≡ true → is_mark false ≡ false → (marks : List Bool) (text : List ℕ) → length text < length marks → leads marks [] text ≡ list_any is_mark (take (suc (length text)) marks)
none_leads is_mark holds fails [] text long = absurd (omega (arith, long))
none_leads is_mark holds fails (here ∷ later) [] long = mark_alone is_mark holds fails here
none_leads is_mark holds fails (true ∷ later) (b ∷ text) long = ap (λ z. z || list_any is_mark (take (suc (length text)) later)) (sym holds)
none_leads is_mark holds fails (false ∷ later) (b ∷ text) long =
    none_leads is_mark holds fails later text (omega (arith, long)) ∙ ap (λ z. z || list_any is_mark (take (suc (length text)) later)) (sym fails)

-- every place is marked
all_lead : (items : List Item) (text : List ℕ) → leads (replicate (suc (length text)) true) items text ≡ can_fit_somewhere items text
all_lead items [] = sym (or-false (can_fit items []))
all_lead items (b ∷ text) =
    ap (λ z. can_fit items (b ∷ text) || z)
    (all_lead items text ∙ sym (list_any-map (λ cut. can_fit items cut.1) (with_byte b) (cuts text)))

none_lead : (items : List Item) (text : List ℕ) → leads (replicate (suc (length text)) false) items text ≡ false
none_lead items [] = refl
none_lead items (b ∷ text) = none_lead items text

-- the first place alone is marked
first_leads : (items : List Item) (text : List ℕ) → leads (true ∷ replicate (length text) false) items text ≡ can_fit items text
first_leads items [] = refl
first_leads items (b ∷ text) = ap (λ z. can_fit items (b ∷ text) || z) (none_lead items text) ∙ or-false (can_fit items (b ∷ text))

-- the marks that a search begins with
begun_leads : (anchored : Bool) (items : List Item) (text : List ℕ) → leads (true ∷ replicate (length text) (not anchored)) items text ≡ cond anchored (can_fit items text) (can_fit_somewhere items text)
begun_leads true items text = first_leads items text
begun_leads false items text = all_lead items text

pub begun : (anchored : Bool) (filled : List Bool) (n : ℕ) (items pattern text : List ℕ) → filled ≡ replicate n (not anchored) → n ≡ length text + 1 → anchored ≡ is_anchored pattern → items_of items ≡ pattern_items pattern → leads (set filled 0 true) (items_of items) text ≡ matches pattern text
begun anchored filled n items pattern text fills long anchors splits =
    let many : n ≡ suc (length text) = omega (arith, long) in
    ap (λ z. leads z (items_of items) text) (ap (λ z. set z 0 true) (fills ∙ ap (λ k. replicate k (not anchored)) many))
    ∙ ap (λ z. leads (true ∷ replicate (length text) (not anchored)) z text) splits
    ∙ begun_leads anchored (pattern_items pattern) text
    ∙ ap (λ t. cond t (can_fit (pattern_items pattern) text) (can_fit_somewhere (pattern_items pattern) text)) anchors
