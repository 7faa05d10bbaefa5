-- A line of a script's text, and what stands around it.
use Rattle.std.specs.Prelude.{◌≡◌, ◌⊎◌, ℕ, ◌==◌, [], ◌∷◌, ◌++◌, count_by}
use Rattle.mem_files.specs.Name.{Bytes}
use Rattle.prog_parts.specs.Lines.{HasNoLf}

-- how many lines end in a text
abbrev pub ends_in : Bytes → ℕ
ends_in text = count_by (λ byte. byte == 10) text

-- a line begins behind these bytes, and one ends before these
abbrev pub BeginsLine : Bytes → Type 0
BeginsLine before = (before ≡ []) ⊎ ((lines : Bytes) × (before ≡ lines ++ 10 ∷ []))

abbrev pub EndsLine : Bytes → Type 0
EndsLine after = (after ≡ []) ⊎ ((lines : Bytes) × (after ≡ 10 ∷ lines))

-- the text is the line behind so many, between these bytes
pub record IsLineAt (bytes : Bytes) (count : ℕ) (before text after : Bytes) : Type 0 where
  pub cut : bytes ≡ before ++ (text ++ after)
  pub place : ends_in before ≡ count
  pub begins : BeginsLine before
  pub whole : HasNoLf text
  pub ends : EndsLine after
