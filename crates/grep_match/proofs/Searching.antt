-- One step of the search that tries cut after cut; `whole` is the answer for all of the items and text.
use Rattle.std.proofs.Common.{◌≡◌, ℕ, Bool, true, false, ◌&&◌, ◌||◌, ◌==◌, List, [], ◌∷◌, length, ap, sym, ◌∙◌}
use Rattle.std.proofs.Math.Bool.{or-false}
use Rattle.grep_match.specs.declared.item.Item.{Item}
use Rattle.grep_match.specs.declared.item.Item.TheVariants.{One, Star, End}
use Rattle.grep_match.specs.Pattern.{items_of, stands_for}
use Rattle.grep_match.specs.Match.{cuts, can_fit, can_fit_somewhere}
use Rattle.grep_match.proofs.Fitting.{list_any-map, with_byte, one_goes_on, star_at_end, star_goes_on, end_goes_on}

one_step : (c : ℕ) (item : Item) (left rest unread later : List ℕ) (other : ℕ) → items_of left ≡ item ∷ items_of rest → item ≡ One c → unread ≡ other ∷ later → can_fit (items_of left) unread ≡ (stands_for c other && can_fit (items_of rest) later)
one_step c item left rest unread later other split is cut =
    ap (λ items. can_fit items unread) (split ∙ ap (λ z. z ∷ items_of rest) is)
    ∙ ap (can_fit (One c ∷ items_of rest)) cut
    ∙ one_goes_on c (items_of rest) other later

pub one_fails : (c : ℕ) (item : Item) (left rest unread later : List ℕ) (other : ℕ) (whole : Bool) → items_of left ≡ item ∷ items_of rest → item ≡ One c → unread ≡ other ∷ later → stands_for c other ≡ false → can_fit (items_of left) unread ≡ whole → false ≡ whole
one_fails c item left rest unread later other whole split is cut fails before =
    sym (one_step c item left rest unread later other split is cut ∙ ap (λ z. z && can_fit (items_of rest) later) fails) ∙ before

pub one_fits : (c : ℕ) (item : Item) (left rest unread later : List ℕ) (other : ℕ) (whole : Bool) → items_of left ≡ item ∷ items_of rest → item ≡ One c → unread ≡ other ∷ later → stands_for c other ≡ true → can_fit (items_of left) unread ≡ whole → can_fit (items_of rest) later ≡ whole
one_fits c item left rest unread later other whole split is cut holds before =
    sym (one_step c item left rest unread later other split is cut ∙ ap (λ z. z && can_fit (items_of rest) later) holds) ∙ before

end_step : (items : List Item) (unread : List ℕ) → (length unread == 0) ≡ false → can_fit (End ∷ items) unread ≡ false
end_step items [] more = absurd (cc)
end_step items (b ∷ text) more = end_goes_on items b text

pub end_fails : (item : Item) (left rest unread : List ℕ) (whole : Bool) → items_of left ≡ item ∷ items_of rest → item ≡ End → (length unread == 0) ≡ false → can_fit (items_of left) unread ≡ whole → false ≡ whole
end_fails item left rest unread whole split is more before =
    sym (ap (λ items. can_fit items unread) (split ∙ ap (λ z. z ∷ items_of rest) is) ∙ end_step (items_of rest) unread more) ∙ before

star_step : (c : ℕ) (items : List Item) (unread later : List ℕ) (other : ℕ) → unread ≡ other ∷ later → can_fit (Star c ∷ items) unread ≡ (can_fit items unread || stands_for c other && can_fit (Star c ∷ items) later)
star_step c items unread later other cut =
    ap (can_fit (Star c ∷ items)) cut
    ∙ star_goes_on c items other later
    ∙ ap (λ z. can_fit items z || stands_for c other && can_fit (Star c ∷ items) later) (sym cut)

star_more : (c : ℕ) (items : List Item) (unread later : List ℕ) (other : ℕ) → unread ≡ other ∷ later → can_fit items unread ≡ false → can_fit (Star c ∷ items) unread ≡ (stands_for c other && can_fit (Star c ∷ items) later)
star_more c items unread later other cut not_yet =
    star_step c items unread later other cut ∙ ap (λ z. z || stands_for c other && can_fit (Star c ∷ items) later) not_yet

pub star_goes : (c : ℕ) (items : List Item) (unread later : List ℕ) (other : ℕ) (whole : Bool) → unread ≡ other ∷ later → can_fit items unread ≡ false → stands_for c other ≡ true → can_fit (Star c ∷ items) unread ≡ whole → can_fit (Star c ∷ items) later ≡ whole
star_goes c items unread later other whole cut not_yet holds before =
    sym (star_more c items unread later other cut not_yet ∙ ap (λ z. z && can_fit (Star c ∷ items) later) holds) ∙ before

pub star_fails : (c : ℕ) (items : List Item) (unread later : List ℕ) (other : ℕ) (whole : Bool) → unread ≡ other ∷ later → can_fit items unread ≡ false → stands_for c other ≡ false → can_fit (Star c ∷ items) unread ≡ whole → false ≡ whole
star_fails c items unread later other whole cut not_yet fails before =
    sym (star_more c items unread later other cut not_yet ∙ ap (λ z. z && can_fit (Star c ∷ items) later) fails) ∙ before

star_now : (c : ℕ) (items : List Item) (unread : List ℕ) → can_fit items unread ≡ true → can_fit (Star c ∷ items) unread ≡ true
star_now c items [] now = star_at_end c items ∙ now
star_now c items (b ∷ text) now = star_goes_on c items b text ∙ ap (λ z. z || stands_for c b && can_fit (Star c ∷ items) text) now

pub star_fits : (c : ℕ) (items : List Item) (unread : List ℕ) (whole : Bool) → can_fit items unread ≡ true → can_fit (Star c ∷ items) unread ≡ whole → true ≡ whole
star_fits c items unread whole now before = sym (star_now c items unread now) ∙ before

pub somewhere_more : (items : List Item) (b : ℕ) (text : List ℕ) → can_fit_somewhere items (b ∷ text) ≡ (can_fit items (b ∷ text) || can_fit_somewhere items text)
somewhere_more items b text = ap (λ z. can_fit items (b ∷ text) || z) (list_any-map (λ cut. can_fit items cut.1) (with_byte b) (cuts text))

pub somewhere_goes : (items : List Item) (unread later : List ℕ) (other : ℕ) (whole : Bool) → unread ≡ other ∷ later → can_fit items unread ≡ false → can_fit_somewhere items unread ≡ whole → can_fit_somewhere items later ≡ whole
somewhere_goes items unread later other whole cut not_yet before =
    sym (ap (can_fit_somewhere items) cut ∙ somewhere_more items other later ∙ ap (λ z. z || can_fit_somewhere items later) (ap (can_fit items) (sym cut) ∙ not_yet)) ∙ before

somewhere_now : (items : List Item) (unread : List ℕ) → can_fit items unread ≡ true → can_fit_somewhere items unread ≡ true
somewhere_now items [] now = or-false (can_fit items []) ∙ now
somewhere_now items (b ∷ text) now = somewhere_more items b text ∙ ap (λ z. z || can_fit_somewhere items text) now

pub somewhere_fits : (items : List Item) (unread : List ℕ) (whole : Bool) → can_fit items unread ≡ true → can_fit_somewhere items unread ≡ whole → true ≡ whole
somewhere_fits items unread whole now before = sym (somewhere_now items unread now) ∙ before
