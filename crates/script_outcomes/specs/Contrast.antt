-- What two outcomes differ in, and how hard that is to see (own).
use Rattle.std.specs.Prelude.{◌≡◌, ◌≢◌, ◌⊎◌, ◌↔◌, ℕ, ◌+◌, ◌-◌, ◌*◌, ◌<◌, Bool, IsTrue, if◌then◌else◌, [], length, slice_index_or}
use Rattle.mem_files.specs.Name.{Bytes}
use Rattle.order_search.specs.declared.outcomes.Outcome.{Outcome}
use Rattle.script_outcomes.specs.declared.contrast.Contrast.{Contrast}

-- the last byte ends no line
abbrev pub IsTorn : Bytes → Type 0
IsTorn bytes = (0 < length bytes) × (slice_index_or bytes (length bytes - 1) 10 ≢ 10)

pub record IsContrast (a b : Outcome) (contrast : Contrast) : Type 0 where
  pub output : IsTrue contrast.is_same_output ↔ (a.out.items ≡ b.out.items)
  pub diagnostics : IsTrue contrast.has_other_diagnostics ↔ (a.diag.items ≢ b.diag.items)
  pub files : IsTrue contrast.has_other_files ↔ (a.files ≢ b.files)
  pub full : IsTrue contrast.is_other_full ↔ (a.full ≢ b.full)
  pub talk : IsTrue contrast.has_diagnostics ↔ ((a.diag.items ≢ []) ⊎ (b.diag.items ≢ []))
  pub torn : IsTrue contrast.is_torn ↔ (IsTorn a.out.items ⊎ IsTorn b.out.items)

abbrev pub counted : Bool → ℕ
counted is_so = if is_so then 1 else 0

-- that both print the same weighs most; then comes how much else differs, then whether there are diagnostics, and then whether a last
-- line has no end
abbrev pub weight_of : Contrast → ℕ
weight_of c =
    16 * counted c.is_same_output +
    (4 * (counted c.has_other_diagnostics + (counted c.has_other_files + counted c.is_other_full)) + (2 * counted c.has_diagnostics + counted c.is_torn))
