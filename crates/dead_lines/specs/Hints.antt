-- What is reported of lines that are no command (own).
use Rattle.std.specs.Prelude.{ℕ, ◌==◌, if◌then◌else◌, List, [], ◌∷◌, ◌++◌, codes, drop, length, map, take}
use Rattle.std.specs.Fmt.{decimal}

-- of a line
abbrev pub hint_of : ℕ → List ℕ
hint_of line = codes "line " ++ (decimal line ++ codes " is no command and did nothing: see xvsh explain")

-- of so many lines more
abbrev pub more_text : ℕ → List ℕ
more_text count = if count == 1 then codes "and 1 more line is no command" else (codes "and " ++ (decimal count ++ codes " more lines are no command"))

-- the same, if there are any
abbrev pub more_of : ℕ → List (List ℕ)
more_of count = if count == 0 then [] else (more_text count ∷ [])

-- of the lines of these numbers: of the first ten, and how many more there are
abbrev pub hints_of : List ℕ → List (List ℕ)
hints_of numbers = map hint_of (take 10 numbers) ++ more_of (length (drop 10 numbers))
