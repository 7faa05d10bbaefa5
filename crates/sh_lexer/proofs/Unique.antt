-- A line has one list of tokens.
use Rattle.std.proofs.Common.{◌≡◌, ℕ, ◌+◌, ◌<◌, ◌≤◌, List, [], ◌∷◌, length, get_or, true, false, Bool, not, ◌||◌, ◌&&◌, ◌==◌, nat_lt, refl, sym, ◌∙◌, ap, subst, arith, ⊎_elim}
use Rattle.std.proofs.str.Laws.{order}
use Rattle.std.proofs.lemmas.Bool.Decides.{nat_tests}
use Rattle.sh_lexer.specs.declared.token.Kind.{Kind}
use Rattle.sh_lexer.specs.declared.token.Kind.TheVariants.{Word, Less, More, MoreMore, Bar, Amp, Semi, LeftParen, RightParen}
use Rattle.sh_lexer.specs.declared.token.Token.{Token}
use Rattle.sh_lexer.specs.Tokens.{is_white, is_sign, AllWhite, IsTextOf, IsToken, AreTokensFrom}

word_not_white : (w s : Bool) → not (w || s) ≡ true → w ≡ false
word_not_white true s h = cc
word_not_white false s h = refl

word_not_sign : (w s : Bool) → not (w || s) ≡ true → s ≡ false
word_not_sign true s h = cc
word_not_sign false true h = cc
word_not_sign false false h = refl

-- a token does not begin with white space
dark : (k : Kind) (line : List ℕ) (first past : ℕ) → first < past → IsTextOf k line first past → is_white (get_or line first 0) ≡ false
dark Word line first past some text = word_not_white (is_white (get_or line first 0)) (is_sign (get_or line first 0)) (text.0 first (omega arith) some)
dark Less line first past some text = ap is_white text.1
dark More line first past some text = ap is_white text.0.1
dark MoreMore line first past some text = ap is_white text.1
dark Bar line first past some text = ap is_white text.1
dark Amp line first past some text = ap is_white text.1
dark Semi line first past some text = ap is_white text.1
dark LeftParen line first past some text = ap is_white text.1
dark RightParen line first past some text = ap is_white text.1

-- the kind by the tests of the first byte, in the order of `is_sign`, and by whether another > follows
pick : Bool → Bool → Bool → Bool → Bool → Bool → Bool → Bool → Kind
pick true b c d e f g t = Less
pick false true c d e f g t = Bar
pick false false true d e f g true = MoreMore
pick false false true d e f g false = More
pick false false false true e f g t = Amp
pick false false false false true f g t = Semi
pick false false false false false true g t = LeftParen
pick false false false false false false true t = RightParen
pick false false false false false false false t = Word

pick_word : (a b c d e f g t : Bool) → (a || b || c || d || e || f || g) ≡ false → pick a b c d e f g t ≡ Word
unfolding pick
pick_word true b c d e f g t h = cc
pick_word false true c d e f g t h = cc
pick_word false false true d e f g t h = cc
pick_word false false false true e f g t h = cc
pick_word false false false false true f g t h = cc
pick_word false false false false false true g t h = cc
pick_word false false false false false false true t h = cc
pick_word false false false false false false false t h = refl

kind_of : ℕ → Bool → Kind
kind_of b t = pick (b == 60) (b == 124) (b == 62) (b == 38) (b == 59) (b == 40) (b == 41) t

-- another > follows
twice : List ℕ → ℕ → Bool
twice line first = nat_lt (first + 1) (length line) && (get_or line (first + 1) 0 == 62)

kind_is : (k : Kind) (line : List ℕ) (first past : ℕ) → first < past → past ≤ length line → IsTextOf k line first past → kind_of (get_or line first 0) (twice line first) ≡ k
unfolding kind_of pick twice
kind_is Word line first past some inside text = pick_word _ _ _ _ _ _ _ _ (word_not_sign (is_white (get_or line first 0)) (is_sign (get_or line first 0)) (text.0 first (omega arith) some))
kind_is Less line first past some inside text = ap (λ b. kind_of b (twice line first)) text.1
kind_is More line first past some inside text =
    let once : twice line first ≡ false = grind (arith, nat_tests) in
    ap (λ b. kind_of b (twice line first)) text.0.1 ∙ ap (kind_of 62) once
kind_is MoreMore line first past some inside text =
    let two : twice line first ≡ true = grind (arith, nat_tests) in
    ap (λ b. kind_of b (twice line first)) text.1 ∙ ap (kind_of 62) two
kind_is Bar line first past some inside text = ap (λ b. kind_of b (twice line first)) text.1
kind_is Amp line first past some inside text = ap (λ b. kind_of b (twice line first)) text.1
kind_is Semi line first past some inside text = ap (λ b. kind_of b (twice line first)) text.1
kind_is LeftParen line first past some inside text = ap (λ b. kind_of b (twice line first)) text.1
kind_is RightParen line first past some inside text = ap (λ b. kind_of b (twice line first)) text.1

-- a text goes on as far as its kind allows
same_past : (k : Kind) (line : List ℕ) (first past end : ℕ) → first < past → past ≤ length line → first < end → end ≤ length line → IsTextOf k line first past → IsTextOf k line first end → past ≡ end
same_past Word line first past end p_some p_in e_some e_in p e =
    ⊎_elim
    (λ below. absurd (differ (p.1 (omega arith)) (e.0 past (omega arith) below)))
    (λ above. ⊎_elim
    (λ below. absurd (differ (e.1 (omega arith)) (p.0 end (omega arith) below)))
    (λ at_most. omega arith)
    (order end past))
    (order past end)
  where
    differ : {b : Bool} → b ≡ false → b ≡ true → ⊥
    differ is_not is = let both : false ≡ true = sym is_not ∙ is in cc
same_past Less line first past end p_some p_in e_some e_in p e = omega arith
same_past More line first past end p_some p_in e_some e_in p e = omega arith
same_past MoreMore line first past end p_some p_in e_some e_in p e = omega arith
same_past Bar line first past end p_some p_in e_some e_in p e = omega arith
same_past Amp line first past end p_some p_in e_some e_in p e = omega arith
same_past Semi line first past end p_some p_in e_some e_in p e = omega arith
same_past LeftParen line first past end p_some p_in e_some e_in p e = omega arith
same_past RightParen line first past end p_some p_in e_some e_in p e = omega arith

-- one token begins at a place
one_token : (line : List ℕ) (t u : Token) → IsToken line t → IsToken line u → t.first ≡ u.first → t ≡ u
one_token line t u is_t is_u same =
    let from : IsTextOf u.kind line t.first u.past = subst (λ f. IsTextOf u.kind line f u.past) (sym same) is_u.text in
    let some : t.first < u.past = omega (arith, is_u.nonempty) in
    let kinds : t.kind ≡ u.kind = sym (kind_is t.kind line t.first t.past is_t.nonempty is_t.inside is_t.text) ∙ kind_is u.kind line t.first u.past some is_u.inside from in
    let pasts : t.past ≡ u.past = same_past t.kind line t.first t.past u.past is_t.nonempty is_t.inside some is_u.inside is_t.text (subst (λ k. IsTextOf k line t.first u.past) (sym kinds) from) in
    (λ i. record { kind = kinds i; first = same i; past = pasts i })

-- no token begins in white space
before_token : (line : List ℕ) (from : ℕ) (t u : Token) → from ≤ t.first → t.first < u.first → AllWhite line from u.first → IsToken line t → ⊥
before_token line from t u after below white is =
    let no = dark t.kind line t.first t.past is.nonempty is.text in
    let both : false ≡ true = sym no ∙ white t.first after below in
    cc

pub unique : (line : List ℕ) (from : ℕ) (ts us : List Token) → AreTokensFrom line from ts → AreTokensFrom line from us → ts ≡ us
unique line from [] [] p q = refl
unique line from [] (u ∷ us) p q =
    let no = dark u.kind line u.first u.past q.2.nonempty q.2.text in
    let both : false ≡ true = sym no ∙ p u.first q.0 (omega arith) in
    cc
unique line from (t ∷ ts) [] p q =
    let no = dark t.kind line t.first t.past p.2.nonempty p.2.text in
    let both : false ≡ true = sym no ∙ q t.first p.0 (omega arith) in
    cc
unique line from (t ∷ ts) (u ∷ us) p q =
    let same : t ≡ u =
    ⊎_elim
    (λ below. absurd (before_token line from t u p.0 below q.1 p.2))
    (λ above. ⊎_elim
    (λ below. absurd (before_token line from u t q.0 below p.1 q.2))
    (λ at_most. one_token line t u p.2 q.2 (omega arith))
    (order u.first t.first))
    (order t.first u.first)
    in
    let later = unique line t.past ts us p.3 (subst (λ x. AreTokensFrom line x.past us) (sym same) q.3) in
    cc
