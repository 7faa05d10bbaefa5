-- How a pattern is split into items, and which bytes an item fits (user/grep.c's `match` and `matchhere`).
use Rattle.std.specs.Prelude.{ℕ, Bool, true, false, ◌==◌, ◌||◌, List, [], ◌∷◌, if◌then◌else◌}
use Rattle.std.specs.List.{list_all}
use Rattle.grep_match.specs.declared.item.Item.{Item}
use Rattle.grep_match.specs.declared.item.Item.TheVariants.{One, Star, End}

-- the item of a pattern's last byte: `$` (36) is there the end
abbrev pub last_item : ℕ → Item
last_item c = if c == 36 then End else One c

-- the items from the left: a byte that `*` (42) follows is one with it
abbrev pub items_of : List ℕ → List Item
items_of [] = []
items_of (c ∷ []) = last_item c ∷ []
items_of (c ∷ next ∷ rest) = if next == 42 then Star c ∷ items_of rest else One c ∷ items_of (next ∷ rest)

-- the pattern's first byte is `^` (94)
abbrev pub is_anchored : List ℕ → Bool
is_anchored [] = false
is_anchored (c ∷ rest) = c == 94

-- the items of a whole pattern, without the `^` that anchors it
abbrev pub pattern_items : List ℕ → List Item
pattern_items [] = []
pattern_items (c ∷ rest) = if c == 94 then items_of rest else items_of (c ∷ rest)

-- `.` (46) stands for every byte, any other byte for itself
abbrev pub stands_for : ℕ → ℕ → Bool
stands_for c b = c == 46 || c == b

-- the item fits these bytes: one byte, any number of bytes, or none
abbrev pub fits : Item → List ℕ → Bool
fits (One c) [] = false
fits (One c) (b ∷ []) = stands_for c b
fits (One c) (b ∷ next ∷ more) = false
fits (Star c) piece = list_all (stands_for c) piece
fits End [] = true
fits End (b ∷ more) = false
