-- A number, as far as it is small enough to be reported.
use Rattle.std.specs.Prelude.{◌≡◌, ℕ, ◌<◌, ◌≤◌, Option, Some, None}
use Rattle.room_bounds.specs.declared.capped_growth.TheConstants.{MAX_GROWTH}

-- the number, or None where it is more than is reported
abbrev pub IsCapped : ℕ → Option ℕ → Type 0
IsCapped n None = MAX_GROWTH < n
IsCapped n (Some m) = (m ≡ n) × (n ≤ MAX_GROWTH)
