-- Whether a text matches a pattern, as a relation and as a test.
use Rattle.std.specs.Prelude.{◌≡◌, ℕ, Bool, true, ◌&&◌, List, [], ◌∷◌, ◌++◌, map, if◌then◌else◌}
use Rattle.std.specs.List.{AllZip, Contains, concat, list_any}
use Rattle.grep_match.specs.declared.item.Item.{Item}
use Rattle.grep_match.specs.declared.item.Item.TheVariants.{One, Star, End}
use Rattle.grep_match.specs.Pattern.{is_anchored, pattern_items, fits}

-- a part of the text is a row of pieces, one for each item; nothing stands before it where the pattern is anchored,
-- and nothing behind it where the pattern has an end
pub record IsMatch (pattern text : List ℕ) : Type 0 where
  pub before : List ℕ
  pub pieces : List (List ℕ)
  pub after : List ℕ
  pub parts : text ≡ before ++ (concat pieces ++ after)
  pub each : AllZip (λ item piece. fits item piece ≡ true) (pattern_items pattern) pieces
  pub anchored : is_anchored pattern ≡ true → before ≡ []
  pub ended : Contains (pattern_items pattern) End → after ≡ []

-- all cuts of a text in two
abbrev pub cuts : List ℕ → List (List ℕ × List ℕ)
cuts [] = ([], []) ∷ []
cuts (b ∷ text) = ([], b ∷ text) ∷ map (λ cut. (b ∷ cut.0, cut.1)) (cuts text)

-- an item lets this follow its piece: the end lets nothing
abbrev pub lets_follow : Item → List ℕ → Bool
lets_follow (One c) rest = true
lets_follow (Star c) rest = true
lets_follow End rest = fits End rest

-- the items fit pieces that stand in a row from the text's beginning on: some cut gives the first its piece
abbrev pub can_fit : List Item → List ℕ → Bool
can_fit [] text = true
can_fit (item ∷ items) text = list_any (λ cut. fits item cut.0 && (lets_follow item cut.1 && can_fit items cut.1)) (cuts text)

-- they can fit from some place of the text on
abbrev pub can_fit_somewhere : List Item → List ℕ → Bool
can_fit_somewhere items text = list_any (λ cut. can_fit items cut.1) (cuts text)

-- the text matches the pattern: where that is anchored its items can fit at once, and else somewhere
abbrev pub matches : List ℕ → List ℕ → Bool
matches pattern text =
    if is_anchored pattern
    then can_fit (pattern_items pattern) text
    else can_fit_somewhere (pattern_items pattern) text
