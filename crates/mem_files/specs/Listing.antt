-- The list of all files in byte order of their names.
use Rattle.std.specs.Prelude.{◌≡◌, ℕ, ◌+◌, ◌≤◌, false, IsTrue, None, IfSome, is_some, List, length, if◌then◌else◌}
use Rattle.std.specs.FinMap.Entries.{put, is_sorted}
use Rattle.mem_files.specs.Name.{Name, Bytes, name_cmp, is_openable}
use Rattle.mem_files.specs.Files.{files, with_file}

-- the most files that there can be
abbrev pub max_files : ℕ
max_files = 200

-- the most bytes of a file: 268 blocks of 1,024
abbrev pub max_size : ℕ
max_size = 274432

-- the list in which the file of that name holds these bytes, the names still in byte order
abbrev pub with_entry : List (Name × Bytes) → Name → Bytes → List (Name × Bytes)
with_entry list name bytes = put name_cmp name bytes list

-- how many files there are once there is one of that name
abbrev pub count_with : List (Name × Bytes) → Name → ℕ
count_with list name = if is_some (files list name) then length list else length list + 1

-- there is no room for a file of that name: it is new, and there are as many files as there can be
abbrev pub IsFullFor : List (Name × Bytes) → Name → Type 0
IsFullFor list name = (files list name ≡ None) × (max_files ≤ length list)

-- new is old, but that the file of that name holds these bytes
pub record Holds (old new : List (Name × Bytes)) (name : Name) (bytes : Bytes) : Type 0 where
  pub entry : new ≡ with_entry old name bytes
  pub map : (other : Name) → files new other ≡ with_file (files old) name bytes other
  pub count : length new ≡ count_with old name

-- what holds of the list of every set of files
pub record AreFiles (list : List (Name × Bytes)) : Type 0 where
  -- the names strictly ascend
  pub ascending : IsTrue (is_sorted name_cmp list)
  pub few : length list ≤ max_files
  -- a name that can't be opened has no file
  pub openable : (name : Name) → is_openable name ≡ false → files list name ≡ None
  pub small : (name : Name) → IfSome (files list name) (λ bytes. length bytes ≤ max_size)
