-- The definitions on small cases, each by computing: the split into items, and texts that match and that don't.
use Rattle.std.specs.Prelude.{◌≡◌, true, false, [], ◌∷◌, codes, refl}
use Rattle.grep_match.specs.declared.item.Item.TheVariants.{One, Star, End}
use Rattle.grep_match.specs.Pattern.{pattern_items}
use Rattle.grep_match.specs.Match.{IsMatch, matches}

split_whole_line : pattern_items (codes "^a*b$") ≡ Star 97 ∷ One 98 ∷ End ∷ []
split_whole_line = refl

split_double_star : pattern_items (codes "a**") ≡ Star 97 ∷ One 42 ∷ []
split_double_star = refl

split_first_star : pattern_items (codes "^*a") ≡ One 42 ∷ One 97 ∷ []
split_first_star = refl

split_later_anchor : pattern_items (codes "a^") ≡ One 97 ∷ One 94 ∷ []
split_later_anchor = refl

split_second_anchor : pattern_items (codes "^^") ≡ One 94 ∷ []
split_second_anchor = refl

split_first_dollar : pattern_items (codes "$a") ≡ One 36 ∷ One 97 ∷ []
split_first_dollar = refl

split_starred_dollar : pattern_items (codes "$*") ≡ Star 36 ∷ []
split_starred_dollar = refl

nothing_in_a_text : matches [] (codes "abc") ≡ true
nothing_in_a_text = refl

empty_line : matches (codes "^$") [] ≡ true
empty_line = refl

line_with_a_byte : matches (codes "^$") (codes "a") ≡ false
line_with_a_byte = refl

star_behind_a_star : matches (codes "a**") (codes "aa*") ≡ true
star_behind_a_star = refl

no_star_in_the_text : matches (codes "a**") (codes "aa") ≡ false
no_star_in_the_text = refl

dollar_with_more : matches (codes "$a") (codes "$a") ≡ true
dollar_with_more = refl

star_behind_the_anchor : matches (codes "^*") (codes "*x") ≡ true
star_behind_the_anchor = refl

no_byte_for_the_dot : matches (codes ".") [] ≡ false
no_byte_for_the_dot = refl

star_of_none : matches (codes "x*") [] ≡ true
star_of_none = refl

whole_line : matches (codes "^a*b$") (codes "aab") ≡ true
whole_line = refl

more_behind_the_end : matches (codes "^a*b$") (codes "abc") ≡ false
more_behind_the_end = refl

more_before_the_anchor : matches (codes "^a*b$") (codes "cb") ≡ false
more_before_the_anchor = refl

-- pieces by hand: of no bytes, `bb`, `c` and no bytes, with `a` before them
pieces_of_a_part : IsMatch (codes "x*b*c$") (codes "abbc")
pieces_of_a_part = record {
  before = codes "a";
  pieces = [] ∷ codes "bb" ∷ codes "c" ∷ [] ∷ [];
  after = [];
  parts = refl;
  each = (refl, (refl, (refl, (refl, tt))));
  anchored = λ is. absurd (cc);
  ended = λ has. refl;
}
