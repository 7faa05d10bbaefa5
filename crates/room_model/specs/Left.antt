-- What is left of a number.
use Rattle.std.specs.Prelude.{◌≡◌, ℕ, ◌+◌, ◌<◌, Option, Some, None}

-- so much is left once that many were taken, or None where there were too few
abbrev pub IsLeft : ℕ → ℕ → Option ℕ → Type 0
IsLeft most taken None = most < taken
IsLeft most taken (Some left) = left + taken ≡ most
