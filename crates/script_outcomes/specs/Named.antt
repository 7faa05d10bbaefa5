-- The word that names two outcomes (own).
use Rattle.std.specs.Prelude.{◌≡◌, ◌⊎◌, ℕ, ◌+◌, ◌<◌, ◌∷◌, ◌++◌}
use Rattle.std.specs.Fmt.{decimal}
use Rattle.mem_files.specs.Name.{Bytes}
use Rattle.script_outcomes.specs.declared.pair.Pair.{Pair}

-- the numbers of the outcomes at two places, counted from 1, with a comma between them
abbrev pub numbers_word : ℕ → ℕ → Bytes
numbers_word one other = decimal (one + 1) ++ 44 ∷ decimal (other + 1)

-- the word has the numbers of these two outcomes, in either order
pub record IsNamed (word : Bytes) (pair : Pair) : Type 0 where
  pub ordered : pair.first < pair.other
  pub numbers : (word ≡ numbers_word pair.first pair.other) ⊎ (word ≡ numbers_word pair.other pair.first)
