-- A line has a tree or a fault, and only one of them.
use Rattle.std.proofs.Common.{◌≡◌, ◌≢◌, ℕ, List, [], ◌∷◌, ◌++◌, Option, Some, ◌⊎◌, inl, inr, ⊎_elim, refl, sym, ◌∙◌, ap, subst, append_assoc}
use Rattle.std.proofs.lemmas.List.{append-nil}
use Rattle.sh_lexer.specs.declared.token.Token.{Token}
use Rattle.sh_lexer.specs.Tokens.{IsTokenList}
use Rattle.sh_lexer.proofs.Exists.{exists}
use Rattle.sh_lexer.proofs.Unique.{unique}
use Rattle.sh_tree.specs.declared.fault.ParseFault.{ParseFault}
use Rattle.sh_tree.specs.declared.fault.ParseFault.TheVariants.{MissingFile, MissingParen, TooManyWords, Unexpected, Leftover, Memory}
use Rattle.sh_tree.specs.Fault.{first_of, IsViable, IsRefused, place_of, Fits, place_told, StopsAt, HasFault, HasTree}
use Rattle.sh_tree.specs.Grammar.{Derives}
use Rattle.sh_tree.specs.Lexeme.{Lexeme, lexeme_of, lexemes}
use Rattle.sh_tree.specs.Tree.{Tree}
use Rattle.sh_tree.proofs.Refusal.{lexemes-append, judged}
use Rattle.sh_tree.proofs.Unique.{one_tree}
use Rattle.sh_tree.proofs.Viable.{accepted_derives}

pub has_fault : (line : List ℕ) (ts : List Token) (fault : ParseFault) → IsTokenList line ts → StopsAt line ts fault → HasFault line fault
has_fault line ts (MissingFile at) cut stops = (ts, cut, stops)
has_fault line ts (MissingParen at) cut stops = (ts, cut, stops)
has_fault line ts (TooManyWords at) cut stops = (ts, cut, stops)
has_fault line ts (Unexpected at) cut stops = (ts, cut, stops)
has_fault line ts (Leftover at) cut stops = (ts, cut, stops)
has_fault line ts Memory cut stops = tt

fault_of : (line : List ℕ) (fault : ParseFault) → fault ≢ Memory → HasFault line fault → (ts : List Token) × IsTokenList line ts × StopsAt line ts fault
fault_of line (MissingFile at) other has = has
fault_of line (MissingParen at) other has = has
fault_of line (TooManyWords at) other has = has
fault_of line (Unexpected at) other has = has
fault_of line (Leftover at) other has = has
fault_of line Memory other has = absurd (other refl)

-- what begins a viable prefix is one
prefix : (ts us : List Lexeme) → IsViable (ts ++ us) → IsViable ts
prefix ts us (rest, t, derived) = (us ++ rest, t, subst (λ l. Derives l t) (append_assoc ts us rest) derived)

-- no list goes on where it is refused
stays : (line : List ℕ) (before : List Token) (t : Token) (more : List Token) → IsRefused (lexemes line before) (Some (lexeme_of line t)) → IsViable (lexemes line (before ++ t ∷ more)) → ⊥
stays line before t more refused viable =
    let whole : lexemes line (before ++ t ∷ more) ≡ (lexemes line before ++ lexeme_of line t ∷ []) ++ lexemes line more = lexemes-append line before (t ∷ more) ∙ sym (append_assoc (lexemes line before) (lexeme_of line t ∷ []) (lexemes line more)) in
    refused (prefix (lexemes line before ++ lexeme_of line t ∷ []) (lexemes line more) (subst IsViable whole viable))

-- two ways to cut a list: one cut is the other's, or lies before it
abbrev Further : List Token → List Token → List Token → List Token → Type 0
Further a x b y = (t : Token) × (m : List Token) × (b ≡ a ++ t ∷ m) × (x ≡ t ∷ (m ++ y))

abbrev Cuts : List Token → List Token → List Token → List Token → Type 0
Cuts a x b y = ((a ≡ b) × (x ≡ y)) ⊎ (Further a x b y ⊎ Further b y a x)

cuts : (a x b y : List Token) → a ++ x ≡ b ++ y → Cuts a x b y
cuts [] x [] y e = inl (refl, e)
cuts [] x (t ∷ b) y e = inr (inl (t, b, refl, e))
cuts (t ∷ a) x [] y e = inr (inr (t, a, refl, sym e))
cuts (t ∷ a) x (u ∷ b) y e =
    let heads : t ≡ u = cc in
    let tails : a ++ x ≡ b ++ y = cc in
    ⊎_elim
    (λ same. inl ((λ i. heads i ∷ same.0 i), same.1))
    (λ differ. ⊎_elim
    (λ f. inr (inl (f.0, f.1, (λ i. sym heads i ∷ f.2 i), f.3)))
    (λ f. inr (inr (f.0, f.1, (λ i. heads i ∷ f.2 i), f.3)))
    differ)
    (cuts a x b y tails)

one_cut : (line : List ℕ) (a x b y : List Token) → a ++ x ≡ b ++ y → IsViable (lexemes line a) → IsViable (lexemes line b) → IsRefused (lexemes line a) (first_of (lexemes line x)) → IsRefused (lexemes line b) (first_of (lexemes line y)) → (a ≡ b) × (x ≡ y)
one_cut line a x b y e a_viable b_viable a_refused b_refused =
    ⊎_elim
    (λ same. same)
    (λ differ. ⊎_elim
    (λ f. absurd (stays line a f.0 f.1 (subst (λ l. IsRefused (lexemes line a) (first_of (lexemes line l))) f.3 a_refused) (subst (λ l. IsViable (lexemes line l)) f.2 b_viable)))
    (λ f. absurd (stays line b f.0 f.1 (subst (λ l. IsRefused (lexemes line b) (first_of (lexemes line l))) f.3 b_refused) (subst (λ l. IsViable (lexemes line l)) f.2 a_viable)))
    differ)
    (cuts a x b y e)

-- one kind is the first that fits
one_kind : (f g : ParseFault) (b : List Lexeme) (n : Option Lexeme) → f ≢ Memory → g ≢ Memory → place_told f ≡ place_told g → Fits f b n → Fits g b n → f ≡ g
one_kind (MissingFile at) (MissingFile to) b n p q e x y = ap MissingFile e
one_kind (MissingFile at) (TooManyWords to) b n p q e x y = absurd (y.0 x)
one_kind (MissingFile at) (Unexpected to) b n p q e x y = absurd (y.0 x)
one_kind (MissingFile at) (MissingParen to) b n p q e x y = absurd (y.0 x)
one_kind (MissingFile at) (Leftover to) b n p q e x y = absurd (y.0 x)
one_kind (TooManyWords at) (MissingFile to) b n p q e x y = absurd (x.0 y)
one_kind (TooManyWords at) (TooManyWords to) b n p q e x y = ap TooManyWords e
one_kind (TooManyWords at) (Unexpected to) b n p q e x y = absurd (y.1 x.1)
one_kind (TooManyWords at) (MissingParen to) b n p q e x y = absurd (y.1 x.1)
one_kind (TooManyWords at) (Leftover to) b n p q e x y = absurd (y.1 x.1)
one_kind (Unexpected at) (MissingFile to) b n p q e x y = absurd (x.0 y)
one_kind (Unexpected at) (TooManyWords to) b n p q e x y = absurd (x.1 y.1)
one_kind (Unexpected at) (Unexpected to) b n p q e x y = ap Unexpected e
one_kind (Unexpected at) (MissingParen to) b n p q e x y = absurd (y.2 x.2)
one_kind (Unexpected at) (Leftover to) b n p q e x y = absurd (y.2 x.2)
one_kind (MissingParen at) (MissingFile to) b n p q e x y = absurd (x.0 y)
one_kind (MissingParen at) (TooManyWords to) b n p q e x y = absurd (x.1 y.1)
one_kind (MissingParen at) (Unexpected to) b n p q e x y = absurd (x.2 y.2)
one_kind (MissingParen at) (MissingParen to) b n p q e x y = ap MissingParen e
one_kind (MissingParen at) (Leftover to) b n p q e x y = absurd (y.3 x.3)
one_kind (Leftover at) (MissingFile to) b n p q e x y = absurd (x.0 y)
one_kind (Leftover at) (TooManyWords to) b n p q e x y = absurd (x.1 y.1)
one_kind (Leftover at) (Unexpected to) b n p q e x y = absurd (x.2 y.2)
one_kind (Leftover at) (MissingParen to) b n p q e x y = absurd (x.3 y.3)
one_kind (Leftover at) (Leftover to) b n p q e x y = ap Leftover e
one_kind Memory g b n p q e x y = absurd (p refl)
one_kind (MissingFile at) Memory b n p q e x y = absurd (q refl)
one_kind (TooManyWords at) Memory b n p q e x y = absurd (q refl)
one_kind (Unexpected at) Memory b n p q e x y = absurd (q refl)
one_kind (MissingParen at) Memory b n p q e x y = absurd (q refl)
one_kind (Leftover at) Memory b n p q e x y = absurd (q refl)

one_stop : (line : List ℕ) (ts : List Token) (f g : ParseFault) → f ≢ Memory → g ≢ Memory → StopsAt line ts f → StopsAt line ts g → f ≡ g
one_stop line ts f g p q x y =
    let cut = one_cut line x.before x.rest y.before y.rest (sym x.split ∙ y.split) x.viable y.viable x.refused y.refused in
    let reason : Fits f (lexemes line y.before) (first_of (lexemes line y.rest)) =
    subst (λ l. Fits f (lexemes line y.before) (first_of (lexemes line l))) cut.1 (subst (λ l. Fits f (lexemes line l) (first_of (lexemes line x.rest))) cut.0 x.reason)
    in
    one_kind f g (lexemes line y.before) (first_of (lexemes line y.rest)) p q (x.place ∙ ap (place_of line) cut.1 ∙ sym y.place) reason y.reason

pub one_fault : (line : List ℕ) (f g : ParseFault) → f ≢ Memory → g ≢ Memory → HasFault line f → HasFault line g → f ≡ g
one_fault line f g p q x y =
    let one = fault_of line f p x in
    let other = fault_of line g q y in
    one_stop line other.0 f g p q (subst (λ l. StopsAt line l f) (unique line 0 one.0 other.0 one.1 other.1) one.2) other.2

pub one_tree_of : (line : List ℕ) (t u : Tree) → HasTree line t → HasTree line u → t ≡ u
one_tree_of line t u x y =
    one_tree (lexemes line y.0) t u (subst (λ l. Derives (lexemes line l) t) (unique line 0 x.0 y.0 x.1 y.1) x.2) y.2

derived_stays : (line : List ℕ) (before rest : List Token) (t : Tree) → IsRefused (lexemes line before) (first_of (lexemes line rest)) → Derives (lexemes line (before ++ rest)) t → ⊥
derived_stays line before [] t refused derived = refused t (subst (λ l. Derives (lexemes line l) t) (append-nil before) derived)
derived_stays line before (u ∷ rest) t refused derived =
    stays line before u rest refused ([], t, subst (λ l. Derives l t) (sym (append-nil (lexemes line (before ++ u ∷ rest)))) derived)

pub never_both : (line : List ℕ) (t : Tree) (f : ParseFault) → f ≢ Memory → HasTree line t → HasFault line f → ⊥
never_both line t f p x y =
    let stop = fault_of line f p y in
    let derived = subst (λ l. Derives (lexemes line l) t) (unique line 0 x.0 stop.0 x.1 stop.1) x.2 in
    derived_stays line stop.2.before stop.2.rest t stop.2.refused (subst (λ l. Derives (lexemes line l) t) stop.2.split derived)

pub some_answer : (line : List ℕ) → ((t : Tree) × HasTree line t) ⊎ ((f : ParseFault) × (f ≢ Memory) × HasFault line f)
some_answer line =
    let all = exists line in
    ⊎_elim
    (λ a. let derived = accepted_derives (lexemes line all.0) a in inl (derived.0, (all.0, all.1, derived.1)))
    (λ f. inr (f.0, f.1, has_fault line all.0 f.0 all.1 f.2))
    (judged line all.0)
