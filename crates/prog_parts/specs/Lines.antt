-- How bytes are cut into lines.
use Rattle.std.specs.Prelude.{◌≡◌, ◌≢◌, ℕ, ◌<◌, List, [], ◌∷◌, ◌++◌, length, All, ◌⊎◌}

abbrev pub HasNoLf : List ℕ → Type 0
HasNoLf line = All (λ b. b ≢ 10) line

-- the rest follows the line and its LF; or the line is the last, and has no LF but a byte
abbrev pub IsFirstLine : List ℕ → List ℕ → List ℕ → Type 0
IsFirstLine bytes line rest =
    HasNoLf line × ((bytes ≡ line ++ 10 ∷ rest) ⊎ ((bytes ≡ line) × (0 < length line) × (rest ≡ [])))

-- the lines of these bytes, without their LFs
abbrev pub AreLines : List ℕ → List (List ℕ) → Type 0
AreLines bytes [] = bytes ≡ []
AreLines bytes (line ∷ lines) = (rest : List ℕ) × IsFirstLine bytes line rest × AreLines rest lines

-- what stands behind the last LF is a line if it has a byte
abbrev pub last_line : List ℕ → List (List ℕ)
last_line [] = []
last_line (byte ∷ bytes) = (byte ∷ bytes) ∷ []
