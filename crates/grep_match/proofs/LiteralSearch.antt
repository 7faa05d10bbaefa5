-- Items that begin with literal bytes can fit only where those bytes occur in the text, and there if they are all.
use Rattle.std.proofs.Common.{◌≡◌, ℕ, zero, suc, ◌+◌, ◌<◌, Bool, true, false, not, ◌&&◌, ◌||◌, ◌==◌, ◌⊎◌, get_or, List, [], ◌∷◌, ◌++◌, length, take, drop, refl, ap, sym, subst, ◌∙◌, append_assoc, arith, cond, ⊎_elim}
use Rattle.std.proofs.Math.Seq.{drop-cons, take-suc}
use Rattle.std.proofs.lemmas.List.{map-append, append-nil, drop_all}
use Rattle.std.proofs.lemmas.List.Folds.{list_all-append}
use Rattle.std.proofs.lemmas.Bool.{or_cases, or_right, and_parts, and_from, eqb-true, eq-eqb, ne_eqb, cases_Bool, false≢true}
use Rattle.std.proofs.lemmas.Bool.Decides.{Decides-eqb}
use Rattle.std.proofs.lemmas.Slice.Eq.{starts_is}
use Rattle.std.specs.List.{starts_with}
use Rattle.memchr.specs.Find.{Nowhere, Passes, is_byte}
use Rattle.grep_match.specs.declared.item.Item.{Item}
use Rattle.grep_match.specs.declared.item.Item.TheVariants.{One}
use Rattle.grep_match.specs.Pattern.{items_of, is_anchored, pattern_items}
use Rattle.grep_match.specs.Match.{can_fit, can_fit_somewhere, matches}
use Rattle.grep_match.specs.Literal.{is_literal, ones}
use Rattle.grep_match.proofs.Fitting.{one_goes_on}
use Rattle.grep_match.proofs.Passing.{empty}
use Rattle.grep_match.proofs.Pieces.{any_cut, cut_any}
use Rattle.grep_match.proofs.Searching.{somewhere_more}

-- what `literal_len` has passed, and one byte more
pub byte_joins : (c : ℕ) (items left rest : List ℕ) (n : ℕ) → n < length items → left ≡ drop n items → left ≡ c ∷ rest → (take (suc n) items ≡ take n items ++ c ∷ []) × (rest ≡ drop (suc n) items)
byte_joins c items left rest n within is cut =
    let parts = sym cut ∙ is ∙ drop-cons items n 0 within in
    let same : get_or items n 0 ≡ c = cc in
    (take-suc items n 0 within ∙ ap (λ b. take n items ++ b ∷ []) same, cc)

pub items_join : (c : ℕ) (item : Item) (items before left rest : List ℕ) → items_of items ≡ ones before ++ items_of left → items_of left ≡ item ∷ items_of rest → item ≡ One c → items_of items ≡ ones (before ++ c ∷ []) ++ items_of rest
items_join c item items before left rest split next is =
    split
    ∙ ap (λ z. ones before ++ z) (next ∙ ap (λ z. z ∷ items_of rest) is)
    ∙ sym (append_assoc (ones before) (One c ∷ []) (items_of rest))
    ∙ ap (λ z. z ++ items_of rest) (sym (map-append One before (c ∷ [])))

pub literal_joins : (c : ℕ) (before : List ℕ) → is_literal before → (c == 46) ≡ false → is_literal (before ++ c ∷ [])
literal_joins c before literal other =
    list_all-append (λ byte. not (byte == 46)) before (c ∷ []) ∙ and_from _ _ literal (and_from _ _ (ap not other) refl)

same_byte : (c b : ℕ) → not (c == 46) ≡ true → ((c == 46) ≡ true) ⊎ ((c == b) ≡ true) → c ≡ b
same_byte c b literal is = ⊎_elim (λ dot. absurd (cc)) (λ same. eqb-true c b same) is

-- the text begins with the literal bytes
begins : (literal : List ℕ) (more : List Item) (text : List ℕ) → is_literal literal → can_fit (ones literal ++ more) text ≡ true → (rest : List ℕ) × (text ≡ literal ++ rest)
begins [] more text are fit = (text, refl)
begins (c ∷ literal) more [] are fit = let never : false ≡ true = fit in absurd (cc)
begins (c ∷ literal) more (b ∷ text) are fit =
    let both = and_parts _ _ (sym (one_goes_on c (ones literal ++ more) b text) ∙ fit) in
    let bytes = and_parts _ _ are in
    let later = begins literal more text bytes.1 both.1 in
    let same = same_byte c b bytes.0 (or_cases (c == 46) (c == b) both.0) in
    (later.0, ap (λ z. b ∷ z) later.1 ∙ ap (λ z. z ∷ (literal ++ later.0)) (sym same))

literal_fits : (literal rest : List ℕ) → can_fit (ones literal) (literal ++ rest) ≡ true
literal_fits [] rest = refl
literal_fits (c ∷ literal) rest =
    one_goes_on c (ones literal) c (literal ++ rest)
    ∙ and_from _ _ (or_right (c == 46) (c == c) (eq-eqb c c refl)) (literal_fits literal rest)

-- literal bytes can fit just where the text begins with them
literal_starts : (literal text : List ℕ) (starts : Bool) → is_literal literal → starts ≡ starts_with (λ a b. a == b) text literal → can_fit (ones literal) text ≡ starts
literal_starts literal text starts are is =
    let tells = starts_is Decides-eqb text literal starts is in
    ⊎_elim
    (λ yes. ap (can_fit (ones literal)) (tells.0 yes) ∙ literal_fits literal _ ∙ sym yes)
    (λ no. ⊎_elim
    (λ fits. let begun = begins literal [] text are (ap (λ z. can_fit z text) (append-nil (ones literal)) ∙ fits) in absurd (false≢true (sym no ∙ tells.1 begun.0 begun.1)))
    (λ other. other ∙ sym no)
    (cases_Bool (can_fit (ones literal) text)))
    (cases_Bool starts)

-- another byte than the first begins no occurrence
other_byte : (c : ℕ) (items : List Item) (b : ℕ) (left : List ℕ) → (c == 46) ≡ false → ((b == c) ≡ true → ⊥) → can_fit (One c ∷ items) (b ∷ left) ≡ false
other_byte c items b left plain other =
    one_goes_on c items b left
    ∙ ap (λ z. z && can_fit items left) (ap (λ z. z || (c == b)) plain ∙ ne_eqb c b (λ same. other (eq-eqb b c (sym same))))

-- places before the first byte's are passed over
passes_over : (c : ℕ) (items : List Item) (left : List ℕ) (k : ℕ) → (c == 46) ≡ false → Nowhere (Passes (is_byte c) left) 0 k → can_fit_somewhere (One c ∷ items) left ≡ can_fit_somewhere (One c ∷ items) (drop k left)
passes_over c items left zero plain none = refl
passes_over c items [] (suc k) plain none = refl
passes_over c items (b ∷ left) (suc k) plain none =
    somewhere_more (One c ∷ items) b left
    ∙ ap (λ z. z || can_fit_somewhere (One c ∷ items) left) (other_byte c items b left plain (none 0 (omega arith) (omega arith)))
    ∙ passes_over c items left k plain (λ j low high. none (suc j) (omega arith) (omega (arith, high)))

first_plain : (c : ℕ) (others literal : List ℕ) → literal ≡ c ∷ others → is_literal literal → ((c == 46) ≡ false) × is_literal others
first_plain c others literal cut are =
    let parts = and_parts (not (c == 46)) _ (subst is_literal cut are) in (not_false (c == 46) parts.0, parts.1)
  where
    not_false : (t : Bool) → not t ≡ true → t ≡ false
    not_false true e = sym e
    not_false false e = refl

-- no bytes occur in any text
pub none_occur : (literal text : List ℕ) → length literal ≡ 0 → true ≡ can_fit_somewhere (ones literal) text
none_occur literal text none = go text ∙ ap (λ z. can_fit_somewhere (ones z) text) (sym (empty literal none))
  where
    go : (text : List ℕ) → true ≡ can_fit_somewhere [] text
    go [] = refl
    go (b ∷ text) = refl

-- the first byte stands nowhere, so the literal bytes don't
pub first_misses : (c : ℕ) (others literal left : List ℕ) (whole : Bool) → literal ≡ c ∷ others → is_literal literal → Nowhere (Passes (is_byte c) left) 0 (length left) → can_fit_somewhere (ones literal) left ≡ whole → false ≡ whole
first_misses c others literal left whole cut are none before =
    sym (ap (λ z. can_fit_somewhere (ones z) left) cut
    ∙ passes_over c (ones others) left (length left) (first_plain c others literal cut are).0 none
    ∙ ap (can_fit_somewhere (One c ∷ ones others)) (drop_all (length left) left (omega arith)))
    ∙ before

-- at the first byte, the others stand behind it or the search goes on there
pub first_stands : (c : ℕ) (others literal left later : List ℕ) (k : ℕ) (starts whole : Bool) → literal ≡ c ∷ others → is_literal literal → k < length left → Nowhere (Passes (is_byte c) left) 0 k → Passes (is_byte c) left k → later ≡ drop (k + 1) left → starts ≡ starts_with (λ a b. a == b) later others → can_fit_somewhere (ones literal) left ≡ whole → (starts || can_fit_somewhere (ones literal) later) ≡ whole
first_stands c others literal left later k starts whole cut are within none stands rest is before =
    let plain = first_plain c others literal cut are in
    let next : suc k ≡ k + 1 = omega arith in
    let here : drop k left ≡ c ∷ later = drop-cons left k 0 within ∙ (λ i. eqb-true (get_or left k 0) c stands i ∷ (ap (λ n. drop n left) next ∙ sym rest) i) in
    let fits : can_fit (One c ∷ ones others) (c ∷ later) ≡ starts =
    one_goes_on c (ones others) c later
    ∙ ap (λ z. z && can_fit (ones others) later) (or_right (c == 46) (c == c) (eq-eqb c c refl))
    ∙ literal_starts others later starts plain.1 is in
    ap (λ z. starts || can_fit_somewhere (ones z) later) cut
    ∙ sym (ap (λ z. can_fit_somewhere (ones z) left) cut
    ∙ passes_over c (ones others) left k plain.0 none
    ∙ ap (can_fit_somewhere (One c ∷ ones others)) here
    ∙ somewhere_more (One c ∷ ones others) c later
    ∙ ap (λ z. z || can_fit_somewhere (One c ∷ ones others) later) fits)
    ∙ before

-- items that can fit have their literal beginning in the text
beginning_fits : (literal : List ℕ) (more : List Item) (text : List ℕ) → is_literal literal → can_fit_somewhere (ones literal ++ more) text ≡ true → can_fit_somewhere (ones literal) text ≡ true
beginning_fits literal more text are fits =
    let cut = cut_any (λ cut. can_fit (ones literal ++ more) cut.1) text fits in
    let begun = begins literal more cut.1 are cut.3 in
    ap (can_fit_somewhere (ones literal)) (cut.2 ∙ ap (λ z. cut.0 ++ z) begun.1)
    ∙ any_cut (λ cut. can_fit (ones literal) cut.1) cut.0 (literal ++ begun.0) (literal_fits literal begun.0)

-- what a pattern without an anchor matches
unanchored : (pattern items text : List ℕ) → false ≡ is_anchored pattern → items_of items ≡ pattern_items pattern → can_fit_somewhere (items_of items) text ≡ matches pattern text
unanchored pattern items text anchors splits =
    ap (λ z. can_fit_somewhere z text) splits
    ∙ ap (λ t. cond t (can_fit (pattern_items pattern) text) (can_fit_somewhere (pattern_items pattern) text)) anchors

pub literal_misses : (pattern items literal rest text : List ℕ) → false ≡ is_anchored pattern → items_of items ≡ pattern_items pattern → items_of items ≡ ones literal ++ items_of rest → is_literal literal → false ≡ can_fit_somewhere (ones literal) text → false ≡ matches pattern text
literal_misses pattern items literal rest text anchors splits begin are none =
    ⊎_elim
    (λ fits. absurd (false≢true (none ∙ beginning_fits literal (items_of rest) text are (ap (λ z. can_fit_somewhere z text) (sym begin) ∙ fits))))
    (λ misses. sym misses ∙ unanchored pattern items text anchors splits)
    (cases_Bool (can_fit_somewhere (items_of items) text))

pub literal_matches : (pattern items literal rest text : List ℕ) → false ≡ is_anchored pattern → items_of items ≡ pattern_items pattern → items_of items ≡ ones literal ++ items_of rest → (length rest == 0) ≡ true → true ≡ can_fit_somewhere (ones literal) text → true ≡ matches pattern text
literal_matches pattern items literal rest text anchors splits begin ends occurs =
    let all : items_of items ≡ ones literal = begin ∙ ap (λ z. ones literal ++ items_of z) (empty rest (eqb-true (length rest) 0 ends)) ∙ append-nil (ones literal) in
    occurs ∙ ap (λ z. can_fit_somewhere z text) (sym all) ∙ unanchored pattern items text anchors splits
