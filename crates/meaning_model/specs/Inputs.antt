-- The inputs of a program: standard input where it has no file words, else the files that they name.
use Rattle.std.specs.Prelude.{List, [], ◌∷◌, ◌++◌, Option, Some, None, if◌then◌else◌}
use Rattle.mem_files.specs.Name.{Name, Bytes, is_openable}
use Rattle.mem_files.specs.Files.{FileMap}
use Rattle.meaning_model.specs.Value.{Value, fixed}

-- the bytes of the file that opening this name for reading gives; none where it can't be opened or is missing
abbrev pub found : FileMap → Name → Option Bytes
found F name = if is_openable name then F name else None

-- what is written of a file, and then of the later ones; nothing where it is not found
abbrev pub of_found : Option Bytes → (Bytes → Bytes) → Bytes → Bytes
of_found None write later = []
of_found (Some bytes) write later = write bytes ++ later

-- what is written of the files in order, up to and without the first that is not found: of each what
-- `write` says of its name and its bytes
abbrev pub of_files : (Name → Bytes → Bytes) → List Name → FileMap → Bytes
of_files write [] F = []
of_files write (name ∷ names) F = of_found (found F name) (write name) (of_files write names F)

-- a program that works on its inputs one by one: without file words it leaves of standard input, which
-- has no name, what `left` says, and else all of it
abbrev pub filter_value : (Name → Bytes → Bytes) → (Bytes → Bytes) → List Name → Bytes → FileMap → Value
filter_value write left [] input F = fixed (write [] input) (left input) F
filter_value write left (name ∷ names) input F = fixed (of_files write (name ∷ names) F) input F
