-- Every line has a token list.
use Rattle.std.proofs.Common.{◌≡◌, ℕ, zero, suc, ◌+◌, ◌<◌, ◌≤◌, List, [], ◌∷◌, length, get_or, true, false, Bool, not, ◌||◌, ◌⊎◌, ◌==◌, refl, subst, arith, ⊎_elim, inl, inr}
use Rattle.std.proofs.str.Laws.{order}
use Rattle.std.proofs.lemmas.Bool.Decides.{eqb_tells}
use Rattle.sh_lexer.specs.declared.token.Kind.{Kind}
use Rattle.sh_lexer.specs.declared.token.Kind.TheVariants.{Word, Less, More, MoreMore, Bar, Amp, Semi, LeftParen, RightParen}
use Rattle.sh_lexer.specs.declared.token.Token.{Token}
use Rattle.sh_lexer.specs.Tokens.{is_white, is_word_byte, AllWord, IsTextOf, IsToken, AreTokensFrom, IsTokenList}
use Rattle.sh_lexer.proofs.Scan.{tokens_after_white, tokens_from_token}

bool_cases : (b : Bool) → (b ≡ true) ⊎ (b ≡ false)
bool_cases true = inl refl
bool_cases false = inr refl

-- a longest run of word bytes after those from `first` up to `at`
word_from : (line : List ℕ) (fuel first at : ℕ) → length line ≤ at + fuel → first < at → at ≤ length line → AllWord line first at → (past : ℕ) × (first < past) × (past ≤ length line) × IsTextOf Word line first past
word_from line zero first at few begun inside word = (at, begun, inside, (word, λ below. absurd (omega arith)))
word_from line (suc fuel) first at few begun inside word =
    ⊎_elim
    (λ below. ⊎_elim
    (λ more. word_from line fuel first (at + 1) (omega arith) (omega arith) (omega arith)
    (λ i above under. ⊎_elim
    (λ before. word i above before)
    (λ late. let here : i ≡ at = omega arith in rw here more)
    (order i at)))
    (λ ends. (at, begun, inside, (word, λ _. ends)))
    (bool_cases (is_word_byte (get_or line at 0))))
    (λ over. (at, begun, inside, (word, λ below. absurd (omega arith))))
    (order at (length line))

-- a token that begins at a place
abbrev Begins : List ℕ → ℕ → Type 0
Begins line first = (t : Token) × (t.first ≡ first) × IsToken line t

sign : (line : List ℕ) (first : ℕ) (kind : Kind) → first < length line → IsTextOf kind line first (first + 1) → Begins line first
sign line first kind inside text = (record { kind = kind; first = first; past = first + 1 }, refl, record { nonempty = omega arith; inside = omega arith; text = text })

-- a > is doubled or alone
greater : (line : List ℕ) (first : ℕ) → first < length line → get_or line first 0 ≡ 62 → Begins line first
greater line first inside is =
    ⊎_elim
    (λ below. ⊎_elim
    (λ twice. (record { kind = MoreMore; first = first; past = first + 2 }, refl, record { nonempty = omega arith; inside = omega arith; text = (refl, is, twice.1) }))
    (λ once. sign line first More inside ((refl, is), λ _. once.1))
    (eqb_tells (get_or line (first + 1) 0) 62))
    (λ over. sign line first More inside ((refl, is), λ below. absurd (omega arith)))
    (order (first + 1) (length line))

-- no white space and none of the seven signs
word_byte : (white a b c d e f g : Bool) → white ≡ false → a ≡ false → b ≡ false → c ≡ false → d ≡ false → e ≡ false → f ≡ false → g ≡ false → not (white || (a || b || c || d || e || f || g)) ≡ true
word_byte white a b c d e f g n o p q r s t u = rw (n, o, p, q, r, s, t, u) refl

token_begins : (line : List ℕ) (first : ℕ) → first < length line → is_white (get_or line first 0) ≡ false → Begins line first
token_begins line first inside dark =
    let b : ℕ = get_or line first 0 in
    ⊎_elim (λ p. sign line first Less inside (refl, p.1)) (λ p.
    ⊎_elim (λ q. sign line first Bar inside (refl, q.1)) (λ q.
    ⊎_elim (λ r. greater line first inside r.1) (λ r.
    ⊎_elim (λ s. sign line first Amp inside (refl, s.1)) (λ s.
    ⊎_elim (λ t. sign line first Semi inside (refl, t.1)) (λ t.
    ⊎_elim (λ u. sign line first LeftParen inside (refl, u.1)) (λ u.
    ⊎_elim (λ v. sign line first RightParen inside (refl, v.1)) (λ v.
    let is_word : is_word_byte b ≡ true = word_byte (is_white b) (b == 60) (b == 124) (b == 62) (b == 38) (b == 59) (b == 40) (b == 41) dark p.0 q.0 r.0 s.0 t.0 u.0 v.0 in
    let run = word_from line (length line) first (first + 1) (omega arith) (omega arith) (omega arith) (λ i above below. let here : i ≡ first = omega arith in rw here is_word) in
    (record { kind = Word; first = first; past = run.0 }, refl, record { nonempty = run.1; inside = run.2; text = run.3 }))
    (eqb_tells b 41)) (eqb_tells b 40)) (eqb_tells b 59)) (eqb_tells b 38)) (eqb_tells b 62)) (eqb_tells b 124)) (eqb_tells b 60)

list_from : (line : List ℕ) (fuel from : ℕ) → length line ≤ from + fuel → (ts : List Token) × AreTokensFrom line from ts
list_from line zero from few = ([], λ i above below. absurd (omega arith))
list_from line (suc fuel) from few =
    ⊎_elim
    (λ below. ⊎_elim
    (λ white. let later = list_from line fuel (from + 1) (omega arith) in (later.0, tokens_after_white line from later.0 white later.1))
    (λ dark.
    let one = token_begins line from below dark in
    let is = one.2 in
    let later = list_from line fuel (one.0).past (omega (arith, one.1, is.nonempty)) in
    (one.0 ∷ later.0, subst (λ at. AreTokensFrom line at (one.0 ∷ later.0)) one.1 (tokens_from_token line one.0 later.0 is later.1)))
    (bool_cases (is_white (get_or line from 0))))
    (λ over. ([], λ i above below. absurd (omega arith)))
    (order from (length line))

pub exists : (line : List ℕ) → (ts : List Token) × IsTokenList line ts
exists line = list_from line (length line) 0 (omega arith)
