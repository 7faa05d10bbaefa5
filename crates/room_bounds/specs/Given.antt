-- What counts of the files that are there.
use Rattle.std.specs.Prelude.{◌≡◌, ℕ, ◌<◌, ◌≤◌, List, length, Some}
use Rattle.std.specs.List.{slice_get}
use Rattle.mem_files.specs.Name.{Name, Bytes}
use Rattle.mem_files.specs.Files.{files}
use Rattle.tree_model.specs.FilesAhead.{sizes}
use Rattle.room_bounds.specs.declared.given.Given.{Given}

-- the size of the largest of these files, 0 where there is none
pub record IsLargestOf (list : List (Name × Bytes)) (most : ℕ) : Type 0 where
  pub enough : (name : Name) → sizes (files list) name ≤ most
  pub met : (name : Name) × (sizes (files list) name ≡ most)

-- the same of the first so many of them
pub record IsLargestTo (list : List (Name × Bytes)) (i most : ℕ) : Type 0 where
  pub enough : (j : ℕ) (file : Name × Bytes) → j < i → slice_get list j ≡ Some file → sizes (files list) file.0 ≤ most
  pub met : (name : Name) × (sizes (files list) name ≡ most)

pub record IsGiven (list : List (Name × Bytes)) (given : Given) : Type 0 where
  pub count : given.count ≡ length list
  pub largest : IsLargestOf list given.largest
