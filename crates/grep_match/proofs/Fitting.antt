-- How `can_fit` goes on, by the first item and the first byte.
use Rattle.std.proofs.Common.{◌≡◌, ℕ, Bool, true, false, ◌&&◌, ◌||◌, List, [], ◌∷◌, map, refl, ap, ◌∙◌}
use Rattle.std.proofs.Math.Bool.{or-false}
use Rattle.std.specs.List.{list_any, list_all}
use Rattle.grep_match.specs.declared.item.Item.{Item}
use Rattle.grep_match.specs.declared.item.Item.TheVariants.{One, Star, End}
use Rattle.grep_match.specs.Pattern.{stands_for, fits}
use Rattle.grep_match.specs.Match.{cuts, lets_follow, can_fit}

pub list_any-map : {X Y : Type 0} (p : Y → Bool) (f : X → Y) (xs : List X) → list_any p (map f xs) ≡ list_any (λ x. p (f x)) xs
list_any-map p f [] = refl
list_any-map p f (x ∷ xs) = ap (λ b. p (f x) || b) (list_any-map p f xs)

pub list_any-false : {X : Type 0} (xs : List X) → list_any (λ x. false) xs ≡ false
list_any-false [] = refl
list_any-false (x ∷ xs) = list_any-false xs

pub list_any-guarded : {X : Type 0} (q : Bool) (f g : X → Bool) (xs : List X) → list_any (λ x. (q && f x) && g x) xs ≡ (q && list_any (λ x. f x && g x) xs)
list_any-guarded true f g xs = refl
list_any-guarded false f g xs = list_any-false xs

-- a test of a cut of a text with one byte more in front
abbrev pub with_byte : ℕ → List ℕ × List ℕ → List ℕ × List ℕ
with_byte b cut = (b ∷ cut.0, cut.1)

-- what `can_fit` tests of a cut
abbrev pub fits_cut : Item → List Item → List ℕ × List ℕ → Bool
fits_cut item items cut = fits item cut.0 && (lets_follow item cut.1 && can_fit items cut.1)

pub one_goes_on : (c : ℕ) (items : List Item) (b : ℕ) (text : List ℕ) → can_fit (One c ∷ items) (b ∷ text) ≡ (stands_for c b && can_fit items text)
one_goes_on c items b [] = or-false (stands_for c b && can_fit items [])
one_goes_on c items b (next ∷ text) =
    ap (λ z. stands_for c b && can_fit items (next ∷ text) || z)
    (list_any-map (fits_cut (One c) items) (with_byte b) (map (with_byte next) (cuts text))
    ∙ list_any-map (λ cut. fits_cut (One c) items (with_byte b cut)) (with_byte next) (cuts text)
    ∙ list_any-false (cuts text))
    ∙ or-false (stands_for c b && can_fit items (next ∷ text))

pub star_at_end : (c : ℕ) (items : List Item) → can_fit (Star c ∷ items) [] ≡ can_fit items []
star_at_end c items = or-false (can_fit items [])

pub star_goes_on : (c : ℕ) (items : List Item) (b : ℕ) (text : List ℕ) → can_fit (Star c ∷ items) (b ∷ text) ≡ (can_fit items (b ∷ text) || stands_for c b && can_fit (Star c ∷ items) text)
star_goes_on c items b text =
    ap (λ z. can_fit items (b ∷ text) || z)
    (list_any-map (fits_cut (Star c) items) (with_byte b) (cuts text)
    ∙ list_any-guarded (stands_for c b) (λ cut. list_all (stands_for c) cut.0) (λ cut. can_fit items cut.1) (cuts text))

pub end_at_end : (items : List Item) → can_fit (End ∷ items) [] ≡ can_fit items []
end_at_end items = or-false (can_fit items [])

pub end_goes_on : (items : List Item) (b : ℕ) (text : List ℕ) → can_fit (End ∷ items) (b ∷ text) ≡ false
end_goes_on items b text = list_any-map (fits_cut End items) (with_byte b) (cuts text) ∙ list_any-false (cuts text)
