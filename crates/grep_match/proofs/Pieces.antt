-- Pieces of a text exist exactly where the search through all cuts finds some.
use Rattle.std.proofs.Common.{◌≡◌, ℕ, zero, suc, Bool, true, false, ◌&&◌, ◌↔◌, ◌==◌, cond, List, [], ◌∷◌, ◌++◌, refl, ap, sym, subst, ◌∙◌, append_assoc, arith, ⊎_elim}
use Rattle.std.proofs.lemmas.Bool.{or_cases, or_left, or_right, and_parts, and_from}
use Rattle.std.specs.List.{AllZip, Contains, concat, list_any}
use Rattle.grep_match.specs.declared.item.Item.{Item}
use Rattle.grep_match.specs.declared.item.Item.TheVariants.{One, Star, End}
use Rattle.grep_match.specs.Pattern.{items_of, last_item, is_anchored, pattern_items, fits}
use Rattle.grep_match.specs.Match.{IsMatch, cuts, lets_follow, can_fit, matches}
use Rattle.grep_match.proofs.Fitting.{list_any-map, with_byte, fits_cut}

pub any_cut : (p : List ℕ × List ℕ → Bool) (x y : List ℕ) → p (x, y) ≡ true → list_any p (cuts (x ++ y)) ≡ true
any_cut p [] [] h = or_left (p ([], [])) false h
any_cut p [] (b ∷ y) h = or_left (p ([], b ∷ y)) _ h
any_cut p (b ∷ x) y h =
    or_right (p ([], b ∷ (x ++ y))) _ (list_any-map p (with_byte b) (cuts (x ++ y)) ∙ any_cut (λ cut. p (with_byte b cut)) x y h)

pub cut_any : (p : List ℕ × List ℕ → Bool) (text : List ℕ) → list_any p (cuts text) ≡ true → (x : List ℕ) × (y : List ℕ) × (text ≡ x ++ y) × (p (x, y) ≡ true)
cut_any p [] h = ⊎_elim (λ here. ([], [], refl, here)) (λ never. absurd (cc)) (or_cases (p ([], [])) false h)
cut_any p (b ∷ text) h =
    ⊎_elim
    (λ here. ([], b ∷ text, refl, here))
    (λ later. let r = cut_any (λ cut. p (with_byte b cut)) text (sym (list_any-map p (with_byte b) (cuts text)) ∙ later) in
    (b ∷ r.0, r.1, ap (λ z. b ∷ z) r.2, r.3))
    (or_cases (p ([], b ∷ text)) _ h)

abbrev Fit : Item → List ℕ → Type 0
Fit item piece = fits item piece ≡ true

-- pieces for the items, from the text's begin on
abbrev HasPieces : List Item → List ℕ → Type 0
HasPieces items text =
    (pieces : List (List ℕ)) × (after : List ℕ) × (text ≡ concat pieces ++ after) × AllZip Fit items pieces × (Contains items End → after ≡ [])

behind : (item : Item) (items : List Item) → Contains items End → Contains (item ∷ items) End
behind item items (k, below, is) = (suc k, omega arith, is)

-- the end isn't the first
not_first : (item : Item) (items : List Item) → (item ≡ End → ⊥) → Contains (item ∷ items) End → Contains items End
not_first item items other (zero, below, is) = absurd (other is)
not_first item items other (suc k, below, is) = (k, omega arith, is)

nil_parts : (x y : List ℕ) → [] ≡ x ++ y → y ≡ []
nil_parts [] y e = sym e
nil_parts (b ∷ x) y e = absurd (cc)

ended : (item : Item) (items : List Item) (rest pieces_after : List ℕ) (pieces : List (List ℕ)) → lets_follow item rest ≡ true → rest ≡ concat pieces ++ pieces_after → (Contains items End → pieces_after ≡ []) → Contains (item ∷ items) End → pieces_after ≡ []
ended (One c) items rest after pieces lets is end has = end (not_first (One c) items (λ e. absurd (cc)) has)
ended (Star c) items rest after pieces lets is end has = end (not_first (Star c) items (λ e. absurd (cc)) has)
ended End items [] after pieces lets is end has = nil_parts (concat pieces) after is
ended End items (b ∷ rest) after pieces lets is end has = absurd (cc)

pieces_exist : (items : List Item) (text : List ℕ) → can_fit items text ≡ true → HasPieces items text
pieces_exist [] text h = ([], text, refl, tt, λ has. absurd (omega (arith, has.1)))
pieces_exist (item ∷ items) text h =
    let cut = cut_any (fits_cut item items) text h in
    let both = and_parts (fits item cut.0) (lets_follow item cut.1 && can_fit items cut.1) cut.3 in
    let more = and_parts (lets_follow item cut.1) (can_fit items cut.1) both.1 in
    let later = pieces_exist items cut.1 more.1 in (
      cut.0 ∷ later.0,
      later.1,
      cut.2 ∙ ap (λ z. cut.0 ++ z) later.2 ∙ sym (append_assoc cut.0 (concat later.0) later.1),
      (both.0, later.3),
      ended item items cut.1 later.1 later.0 more.0 later.2 later.4,
    )

-- no item comes behind the end
abbrev EndIsLast : List Item → Type 0
EndIsLast [] = Unit {0}
EndIsLast (One c ∷ items) = EndIsLast items
EndIsLast (Star c ∷ items) = EndIsLast items
EndIsLast (End ∷ items) = items ≡ []

last_is_last : (c : ℕ) → EndIsLast (last_item c ∷ [])
last_is_last c = go (c == 36)
  where
    go : (t : Bool) → EndIsLast (cond t End (One c) ∷ [])
    go true = refl
    go false = tt

split_is_last : (t : Bool) (c : ℕ) (items more : List Item) → EndIsLast items → EndIsLast more → EndIsLast (cond t (Star c ∷ items) (One c ∷ more))
split_is_last true c items more p q = p
split_is_last false c items more p q = q

end_is_last : (pattern : List ℕ) → EndIsLast (items_of pattern)
end_is_last [] = tt
end_is_last (c ∷ []) = last_is_last c
end_is_last (c ∷ next ∷ rest) = split_is_last (next == 42) c (items_of rest) (items_of (next ∷ rest)) (end_is_last rest) (end_is_last (next ∷ rest))

pattern_end_is_last : (pattern : List ℕ) → EndIsLast (pattern_items pattern)
pattern_end_is_last [] = tt
pattern_end_is_last (c ∷ rest) = go (c == 94)
  where
    go : (t : Bool) → EndIsLast (cond t (items_of rest) (items_of (c ∷ rest)))
    go true = end_is_last rest
    go false = end_is_last (c ∷ rest)

no_pieces : (pieces : List (List ℕ)) → AllZip Fit [] pieces → pieces ≡ []
no_pieces [] h = refl
no_pieces (piece ∷ pieces) h = absurd h

lets : (item : Item) (items : List Item) (pieces : List (List ℕ)) (after : List ℕ) → EndIsLast (item ∷ items) → AllZip Fit items pieces → (Contains (item ∷ items) End → after ≡ []) → lets_follow item (concat pieces ++ after) ≡ true
lets (One c) items pieces after last each ended = refl
lets (Star c) items pieces after last each ended = refl
lets End items pieces after last each ended =
    let nothing : after ≡ [] = ended (0, omega arith, refl) in
    let none : pieces ≡ [] = no_pieces pieces (subst (λ is. AllZip Fit is pieces) last each) in
    rw (none, nothing) refl

last_behind : (item : Item) (items : List Item) → EndIsLast (item ∷ items) → EndIsLast items
last_behind (One c) items last = last
last_behind (Star c) items last = last
last_behind End items last = subst EndIsLast (sym last) tt

pieces_fit : (items : List Item) (pieces : List (List ℕ)) (after : List ℕ) → EndIsLast items → AllZip Fit items pieces → (Contains items End → after ≡ []) → can_fit items (concat pieces ++ after) ≡ true
pieces_fit [] pieces after last each ended = refl
pieces_fit (item ∷ items) [] after last each ended = absurd each
pieces_fit (item ∷ items) (piece ∷ pieces) after last each ended =
    let later = pieces_fit items pieces after (last_behind item items last) each.1 (λ has. ended (behind item items has)) in
    ap (can_fit (item ∷ items)) (append_assoc piece (concat pieces) after)
    ∙ any_cut (fits_cut item items) piece (concat pieces ++ after)
    (and_from _ _ each.0 (and_from _ _ (lets item items pieces after last each.1 ended) later))

pub found : (pattern text : List ℕ) → matches pattern text ≡ true → IsMatch pattern text
found pattern text h = go (is_anchored pattern) refl h
  where
    go : (t : Bool) → is_anchored pattern ≡ t → cond t (can_fit (pattern_items pattern) text) (list_any (λ cut. can_fit (pattern_items pattern) cut.1) (cuts text)) ≡ true → IsMatch pattern text
    go true is h =
        let p = pieces_exist (pattern_items pattern) text h in
        record { before = []; pieces = p.0; after = p.1; parts = p.2; each = p.3; anchored = λ _. refl; ended = p.4 }
    go false is h =
        let cut = cut_any (λ cut. can_fit (pattern_items pattern) cut.1) text h in
        let p = pieces_exist (pattern_items pattern) cut.1 cut.3 in
        record { before = cut.0; pieces = p.0; after = p.1; parts = cut.2 ∙ ap (λ z. cut.0 ++ z) p.2; each = p.3; anchored = λ yes. absurd (cc); ended = p.4 }

pub finds : (pattern text : List ℕ) → IsMatch pattern text → matches pattern text ≡ true
finds pattern text m = go (is_anchored pattern) refl
  where
    rest : List ℕ
    rest = concat m.pieces ++ m.after

    fit : can_fit (pattern_items pattern) (concat m.pieces ++ m.after) ≡ true
    fit = pieces_fit (pattern_items pattern) m.pieces m.after (pattern_end_is_last pattern) m.each m.ended

    go : (t : Bool) → is_anchored pattern ≡ t → cond t (can_fit (pattern_items pattern) text) (list_any (λ cut. can_fit (pattern_items pattern) cut.1) (cuts text)) ≡ true
    go true is = ap (can_fit (pattern_items pattern)) (m.parts ∙ ap (λ z. z ++ (concat m.pieces ++ m.after)) (m.anchored is)) ∙ fit
    go false is =
        ap (λ z. list_any (λ cut. can_fit (pattern_items pattern) cut.1) (cuts z)) m.parts
        ∙ any_cut (λ cut. can_fit (pattern_items pattern) cut.1) m.before (concat m.pieces ++ m.after) fit

pub matches_is_pieces : (pattern text : List ℕ) → (matches pattern text ≡ true) ↔ IsMatch pattern text
matches_is_pieces pattern text = (found pattern text, finds pattern text)

-- an answer that is the test's
pub answers : (result : Bool) (pattern text : List ℕ) → result ≡ matches pattern text → (result ≡ true) ↔ IsMatch pattern text
answers result pattern text is = (λ yes. found pattern text (sym is ∙ yes), λ m. is ∙ finds pattern text m)
