-- Where a name stands in the list of files. No public clause cites this module.
use Rattle.std.specs.Prelude.{◌≡◌, ◌≢◌, ℕ, suc, ◌<◌, List, [], ◌∷◌, length, Some, None, slice_index_or, if◌then◌else◌}
use Rattle.std.specs.Ordering.{is_gt}
use Rattle.mem_files.specs.Name.{Name, Bytes, name_cmp}
use Rattle.mem_files.specs.Files.{files}

-- how many files stand before the first whose name isn't below this one
abbrev pub place : List (Name × Bytes) → Name → ℕ
place [] name = 0
place (file ∷ rest) name = if is_gt (name_cmp name file.0) then suc (place rest name) else 0

-- the file at `at` is the first whose name isn't below this one, and it has this name, so that it
-- is the file that the name finds
pub record StandsAt (list : List (Name × Bytes)) (name : Name) (at : ℕ) : Type 0 where
  pub within : at < length list
  pub here : at ≡ place list name
  pub named : (d : Name × Bytes) → (slice_index_or list at d).0 ≡ name
  pub known : files list name ≢ None
  pub found : (d : Name × Bytes) → files list name ≡ Some (slice_index_or list at d).1
