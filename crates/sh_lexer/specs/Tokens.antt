-- The token list of a line (user/sh.c's `gettoken`): a relation between the line and the finished list.
use Rattle.std.specs.Prelude.{◌≡◌, ◌≢◌, ℕ, ◌+◌, ◌<◌, ◌≤◌, List, [], ◌∷◌, length, slice_index, Bool, not, ◌||◌, ◌==◌, true, false}
use Rattle.sh_lexer.specs.declared.token.Kind.{Kind}
use Rattle.sh_lexer.specs.declared.token.Kind.TheVariants.{Word, Less, More, MoreMore, Bar, Amp, Semi, LeftParen, RightParen}
use Rattle.sh_lexer.specs.declared.token.Token.{Token}

-- space, tab, LF, vertical tab and CR (sh.c's `whitespace`)
abbrev pub is_white : ℕ → Bool
is_white b = b == 32 || b == 9 || b == 10 || b == 11 || b == 13

-- the bytes < | > & ; ( and ) (sh.c's `symbols`)
abbrev pub is_sign : ℕ → Bool
is_sign b = b == 60 || b == 124 || b == 62 || b == 38 || b == 59 || b == 40 || b == 41

-- every other byte belongs to a word
abbrev pub is_word_byte : ℕ → Bool
is_word_byte b = not (is_white b || is_sign b)

-- the bytes from `first` up to, and without, `past` are white space
abbrev pub AllWhite : List ℕ → ℕ → ℕ → Type 0
AllWhite line first past = (i : ℕ) → first ≤ i → i < past → is_white (slice_index line i) ≡ true

-- they are bytes of a word
abbrev pub AllWord : List ℕ → ℕ → ℕ → Type 0
AllWord line first past = (i : ℕ) → first ≤ i → i < past → is_word_byte (slice_index line i) ≡ true

-- they are one byte, the sign b
abbrev pub IsSign : ℕ → List ℕ → ℕ → ℕ → Type 0
IsSign b line first past = (past ≡ first + 1) × (slice_index line first ≡ b)

-- they are a token of this kind, as long as it can be: no byte of a word follows a word, and no > follows a lone >
abbrev pub IsTextOf : Kind → List ℕ → ℕ → ℕ → Type 0
IsTextOf Word line first past =
    AllWord line first past × (past < length line → is_word_byte (slice_index line past) ≡ false)
IsTextOf Less line first past = IsSign 60 line first past
IsTextOf More line first past = IsSign 62 line first past × (past < length line → slice_index line past ≢ 62)
IsTextOf MoreMore line first past = (past ≡ first + 2) × (slice_index line first ≡ 62) × (slice_index line (first + 1) ≡ 62)
IsTextOf Bar line first past = IsSign 124 line first past
IsTextOf Amp line first past = IsSign 38 line first past
IsTextOf Semi line first past = IsSign 59 line first past
IsTextOf LeftParen line first past = IsSign 40 line first past
IsTextOf RightParen line first past = IsSign 41 line first past

-- a span of the line with a text of its kind
pub record IsToken (line : List ℕ) (t : Token) : Type 0 where
  pub nonempty : t.first < t.past
  pub inside : t.past ≤ length line
  pub text : IsTextOf t.kind line t.first t.past

-- from the byte `from` on, tokens stand in order and apart, with only white space before, between and after them
abbrev pub AreTokensFrom : List ℕ → ℕ → List Token → Type 0
AreTokensFrom line from [] = AllWhite line from (length line)
AreTokensFrom line from (t ∷ ts) =
    (from ≤ t.first) × AllWhite line from t.first × IsToken line t × AreTokensFrom line t.past ts

-- the token list of a whole line; no byte of a word precedes a word either, since only white space and tokens do
abbrev pub IsTokenList : List ℕ → List Token → Type 0
IsTokenList line ts = AreTokensFrom line 0 ts
