-- Bytes of a pattern that stand for themselves alone. No public clause cites this module.
use Rattle.std.specs.Prelude.{◌≡◌, ℕ, true, not, ◌==◌, List, map}
use Rattle.std.specs.List.{list_all}
use Rattle.grep_match.specs.declared.item.Item.{Item}
use Rattle.grep_match.specs.declared.item.Item.TheVariants.{One}

-- none of the bytes is `.` (46)
abbrev pub is_literal : List ℕ → Type 0
is_literal bytes = list_all (λ byte. not (byte == 46)) bytes ≡ true

-- the items that are these bytes, one by one
abbrev pub ones : List ℕ → List Item
ones bytes = map One bytes
