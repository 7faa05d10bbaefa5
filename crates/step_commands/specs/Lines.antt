-- The words of a line.
use Rattle.std.specs.Prelude.{◌≡◌, ℕ, ◌==◌, ◌||◌, Bool, true, false, List, [], ◌∷◌, ◌++◌, All}

-- a space, a tab, or a CR
abbrev pub is_blank : ℕ → Bool
is_blank byte = (byte == 32) || ((byte == 9) || (byte == 13))

-- the bytes are none, or begin with a blank; or with a byte that is none
abbrev pub BeginsBlank : List ℕ → Type 0
BeginsBlank [] = Unit {0}
BeginsBlank (byte ∷ bytes) = is_blank byte ≡ true

abbrev pub BeginsSolid : List ℕ → Type 0
BeginsSolid [] = Unit {0}
BeginsSolid (byte ∷ bytes) = is_blank byte ≡ false

-- the first word of a line, which is empty where there is none, and what stands behind it
pub record IsCut (line word rest : List ℕ) : Type 0 where
  pub blanks : List ℕ
  pub split : line ≡ blanks ++ (word ++ rest)
  pub blank : All (λ byte. is_blank byte ≡ true) blanks
  pub begins : BeginsSolid (word ++ rest)
  pub solid : All (λ byte. is_blank byte ≡ false) word
  pub ends : BeginsBlank rest
