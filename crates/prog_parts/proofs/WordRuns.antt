-- Bytes are cut into words, and wc counts as many as there are.
use Rattle.std.proofs.Common.{◌≡◌, ℕ, ◌+◌, Bool, true, false, not, ◌&&◌, List, [], ◌∷◌, ◌++◌, length, refl, sym, ◌∙◌, ap, subst, arith}
use Rattle.std.specs.Prelude.{if◌then◌else◌}
use Rattle.std.proofs.lemmas.Bool.{and_from, and_parts}
use Rattle.sh_lexer.specs.Tokens.{is_white}
use Rattle.mem_files.specs.Name.{Bytes}
use Rattle.prog_parts.specs.Runs.{are_white, has_no_white, is_word, ends_word, AreWords}
use Rattle.prog_parts.specs.Wc.{words, words_after}

white_byte : (inside : Bool) (b : ℕ) (bytes : Bytes) → is_white b ≡ true → words_after inside (b ∷ bytes) ≡ words_after false bytes
white_byte true b bytes white = ap (λ w. (if false && not w then 1 else 0) + words_after (not w) bytes) white ∙ omega arith
white_byte false b bytes white = ap (λ w. (if true && not w then 1 else 0) + words_after (not w) bytes) white ∙ omega arith

word_byte : (b : ℕ) (bytes : Bytes) → not (is_white b) ≡ true → words_after true (b ∷ bytes) ≡ words_after true bytes
word_byte b bytes other = ap (λ w. (if false && w then 1 else 0) + words_after w bytes) other ∙ omega arith

first_byte : (b : ℕ) (bytes : Bytes) → not (is_white b) ≡ true → words_after false (b ∷ bytes) ≡ 1 + words_after true bytes
first_byte b bytes other = ap (λ w. (if true && w then 1 else 0) + words_after w bytes) other

skip : (space rest : Bytes) → are_white space ≡ true → words_after false (space ++ rest) ≡ words_after false rest
skip [] rest white = refl
skip (b ∷ space) rest white =
    let parts = and_parts (is_white b) (are_white space) white in
    white_byte false b (space ++ rest) parts.0 ∙ skip space rest parts.1

pass : (word rest : Bytes) → has_no_white word ≡ true → words_after true (word ++ rest) ≡ words_after true rest
pass [] rest none = refl
pass (b ∷ word) rest none =
    let parts = and_parts (not (is_white b)) (has_no_white word) none in
    word_byte b (word ++ rest) parts.0 ∙ pass word rest parts.1

leave : (rest : Bytes) → ends_word rest ≡ true → words_after true rest ≡ words_after false rest
leave [] ends = refl
leave (b ∷ rest) ends = white_byte true b rest ends ∙ sym (white_byte false b rest ends)

one_word : (word rest : Bytes) → is_word word ≡ true → ends_word rest ≡ true → words_after false (word ++ rest) ≡ 1 + words_after false rest
one_word [] rest is ends = let x : false ≡ true = is in cc
one_word (b ∷ word) rest is ends =
    let parts = and_parts (not (is_white b)) (has_no_white word) is in
    first_byte b (word ++ rest) parts.0 ∙ ap (λ n. 1 + n) (pass word rest parts.1 ∙ leave rest ends)

-- wc counts the words
pub counted : (bytes : Bytes) (runs : List Bytes) → AreWords bytes runs → words bytes ≡ length runs
counted bytes [] white = ap (words_after false) (sym (append_nothing bytes)) ∙ skip bytes [] white
  where
    append_nothing : (bytes : Bytes) → bytes ++ [] ≡ bytes
    append_nothing [] = refl
    append_nothing (b ∷ bytes) = ap (λ bs. b ∷ bs) (append_nothing bytes)
counted bytes (word ∷ runs) (space, rest, whole, white, is, ends, later) =
    ap (words_after false) whole ∙ skip space (word ++ rest) white ∙ one_word word rest is ends ∙ omega (arith, counted rest runs later)

white_ends : (bytes : Bytes) → are_white bytes ≡ true → ends_word bytes ≡ true
white_ends [] white = refl
white_ends (b ∷ bytes) white = (and_parts (is_white b) (are_white bytes) white).0

after_white : (b : ℕ) (bytes : Bytes) → is_white b ≡ true → (runs : List Bytes) → AreWords bytes runs → AreWords (b ∷ bytes) runs
after_white b bytes white [] all = and_from (is_white b) (are_white bytes) white all
after_white b bytes white (word ∷ runs) (space, rest, whole, spaces, is, ends, later) =
    (b ∷ space, rest, ap (λ bs. b ∷ bs) whole, and_from (is_white b) (are_white space) white spaces, is, ends, later)

alone : (b : ℕ) → not (is_white b) ≡ true → is_word (b ∷ []) ≡ true
alone b other = and_from (not (is_white b)) true other refl

longer : (b : ℕ) (word : Bytes) → not (is_white b) ≡ true → is_word word ≡ true → is_word (b ∷ word) ≡ true
longer b [] other is = let x : false ≡ true = is in cc
longer b (c ∷ word) other is = and_from (not (is_white b)) (has_no_white (c ∷ word)) other is

-- a byte of a word begins a word, or goes on before the first
before_word : (b : ℕ) (bytes : Bytes) → not (is_white b) ≡ true → (runs : List Bytes) → AreWords bytes runs → (more : List Bytes) × AreWords (b ∷ bytes) more
before_word b bytes other [] all = ((b ∷ []) ∷ [], ([], bytes, refl, refl, alone b other, white_ends bytes all, all))
before_word b bytes other (word ∷ runs) ([], rest, whole, spaces, is, ends, later) =
    ((b ∷ word) ∷ runs, ([], rest, ap (λ bs. b ∷ bs) whole, refl, longer b word other is, ends, later))
before_word b bytes other (word ∷ runs) (c ∷ space, rest, whole, spaces, is, ends, later) =
    let white = (and_parts (is_white c) (are_white space) spaces).0 in
    ((b ∷ []) ∷ (word ∷ runs), ([], bytes, refl, refl, alone b other, subst (λ bs. ends_word bs ≡ true) (sym whole) white, (c ∷ space, rest, whole, spaces, is, ends, later)))

-- all bytes are cut so
pub some_words : (bytes : Bytes) → (runs : List Bytes) × AreWords bytes runs
some_words [] = ([], refl)
some_words (b ∷ bytes) = go (is_white b) refl (some_words bytes)
  where
    go : (white : Bool) → is_white b ≡ white → ((runs : List Bytes) × AreWords bytes runs) → (runs : List Bytes) × AreWords (b ∷ bytes) runs
    go true white (runs, are) = (runs, after_white b bytes white runs are)
    go false other (runs, are) = before_word b bytes (ap not other) runs are
