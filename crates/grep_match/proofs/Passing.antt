-- The last mark, which no byte follows, and how a walk over the items goes on; `whole` is the answer for all of them.
use Rattle.std.proofs.Common.{◌≡◌, ℕ, suc, ◌+◌, ◌<◌, ◌≤◌, Bool, true, false, ◌||◌, List, [], ◌∷◌, ◌++◌, length, get_or, take, drop, set, refl, ap, sym, ◌∙◌, take-append-drop, add-one, arith}
use Rattle.std.proofs.Math.Bool.{or-false, or-true}
use Rattle.std.proofs.Math.Seq.{drop-cons}
use Rattle.std.proofs.lemmas.List.{drop_all, set_split}
use Rattle.std.specs.List.{list_any}
use Rattle.grep_match.specs.declared.item.Item.{Item}
use Rattle.grep_match.specs.declared.item.Item.TheVariants.{One, Star, End}
use Rattle.grep_match.specs.Pattern.{items_of}
use Rattle.grep_match.specs.Places.{leads, before_byte, behind_bytes}
use Rattle.grep_match.proofs.Leading.{one_leads, one_never_leads, star_leads, end_leads, none_leads}

pub one_ends : (c : ℕ) (marks : List Bool) (text : List ℕ) (n : ℕ) → length text ≤ n → marks ≡ take n marks ++ before_byte c (drop n marks) (drop n text)
one_ends c marks text n over =
    sym (take-append-drop n marks) ∙ ap (λ z. take n marks ++ before_byte c (drop n marks) z) (sym (drop_all n text over))

-- what is added behind the last byte
last_mark : (c : ℕ) (carried : Bool) (marks : List Bool) (text : List ℕ) (n : ℕ) → n < length marks → length text ≤ n → behind_bytes c carried (drop n marks) (drop n text) ≡ (get_or marks n false || carried) ∷ drop (suc n) marks
last_mark c carried marks text n within over =
    λ i. behind_bytes c carried (drop-cons marks n false within i) (drop_all n text over i)

pub star_ends : (c : ℕ) (marks : List Bool) (text : List ℕ) (n : ℕ) → length text < length marks → n ≡ length text → set marks (length text) true ≡ take n marks ++ behind_bytes c true (drop n marks) (drop n text)
star_ends c marks text n long at =
    rw at
    (set_split marks (length text) true long
    ∙ ap (λ z. take (length text) marks ++ z ∷ drop (suc (length text)) marks) (sym (or-true (get_or marks (length text) false)))
    ∙ ap (λ z. take (length text) marks ++ z) (sym (last_mark c true marks text (length text) long (omega arith))))

pub star_stays : (c : ℕ) (marks : List Bool) (text : List ℕ) (n : ℕ) → length text < length marks → n ≡ length text → marks ≡ take n marks ++ behind_bytes c false (drop n marks) (drop n text)
star_stays c marks text n long at =
    rw at
    (sym (take-append-drop (length text) marks)
    ∙ ap (λ z. take (length text) marks ++ z) (drop-cons marks (length text) false long)
    ∙ ap (λ z. take (length text) marks ++ z ∷ drop (suc (length text)) marks) (sym (or-false (get_or marks (length text) false)))
    ∙ ap (λ z. take (length text) marks ++ z) (sym (last_mark c false marks text (length text) long (omega arith))))

pub walk_one : (c : ℕ) (item : Item) (left rest unread later : List ℕ) (other : ℕ) (marks passed : List Bool) (whole : Bool) → length unread < length marks → items_of left ≡ item ∷ items_of rest → item ≡ One c → unread ≡ other ∷ later → passed ≡ before_byte c marks unread → leads marks (items_of left) unread ≡ whole → leads passed (items_of rest) later ≡ whole
walk_one c item left rest unread later other marks passed whole long split is cut passes before =
    ap (λ z. leads z (items_of rest) later) (passes ∙ ap (before_byte c marks) cut)
    ∙ one_leads c (items_of rest) marks other later (omega (arith, long, ap length cut))
    ∙ sym (ap (leads marks (items_of left)) cut ∙ ap (λ items. leads marks items (other ∷ later)) (split ∙ ap (λ z. z ∷ items_of rest) is))
    ∙ before

pub empty : (text : List ℕ) → length text ≡ 0 → text ≡ []
empty [] none = refl
empty (b ∷ text) none = absurd (omega (arith, none))

pub walk_none : (c : ℕ) (item : Item) (left rest unread : List ℕ) (marks : List Bool) (whole : Bool) → items_of left ≡ item ∷ items_of rest → item ≡ One c → length unread ≡ 0 → leads marks (items_of left) unread ≡ whole → false ≡ whole
walk_none c item left rest unread marks whole split is none before =
    sym (ap (leads marks (items_of left)) (empty unread none) ∙ ap (λ items. leads marks items []) (split ∙ ap (λ z. z ∷ items_of rest) is) ∙ one_never_leads c (items_of rest) marks)
    ∙ before

pub walk_star : (c : ℕ) (item : Item) (left rest unread : List ℕ) (marks passed : List Bool) (whole : Bool) → length unread < length marks → items_of left ≡ item ∷ items_of rest → item ≡ Star c → passed ≡ behind_bytes c false marks unread → leads marks (items_of left) unread ≡ whole → leads passed (items_of rest) unread ≡ whole
walk_star c item left rest unread marks passed whole long split is passes before =
    ap (λ z. leads z (items_of rest) unread) passes
    ∙ star_leads c (items_of rest) false marks unread long
    ∙ sym (ap (λ items. leads marks items unread) (split ∙ ap (λ z. z ∷ items_of rest) is))
    ∙ before

pub walk_end : (item : Item) (left rest unread : List ℕ) (marks : List Bool) (whole : Bool) → length unread < length marks → items_of left ≡ item ∷ items_of rest → item ≡ End → rest ≡ [] → leads marks (items_of left) unread ≡ whole → get_or marks (length unread) false ≡ whole
walk_end item left rest unread marks whole long split is last before =
    sym (end_leads marks unread long)
    ∙ sym (ap (λ items. leads marks items unread) (split ∙ (λ i. is i ∷ items_of (last i))))
    ∙ before

pub walk_done : (is_mark : Bool → Bool) → is_mark true ≡ true → is_mark false ≡ false → (left unread : List ℕ) (marks : List Bool) (whole : Bool) → length unread < length marks → left ≡ [] → leads marks (items_of left) unread ≡ whole → list_any is_mark (take (length unread + 1) marks) ≡ whole
walk_done is_mark holds fails left unread marks whole long done before =
    ap (λ n. list_any is_mark (take n marks)) (add-one (length unread))
    ∙ sym (none_leads is_mark holds fails marks unread long)
    ∙ sym (ap (λ items. leads marks (items_of items) unread) done)
    ∙ before
