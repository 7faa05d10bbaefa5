-- Sets of names, as tests.
use Rattle.std.specs.Prelude.{ℕ, Bool, false, ◌||◌, List}
use Rattle.std.specs.List.{list_any}
use Rattle.std.specs.Str.{bytes_eq}

abbrev pub Names : Type 0
Names = List ℕ → Bool

-- the set of no names
abbrev pub no_names : Names
no_names name = false

-- the names of one set and of the other
abbrev pub both : Names → Names → Names
both these those name = these name || those name

-- the names of a list
abbrev pub among : List (List ℕ) → Names
among words name = list_any (bytes_eq name) words
