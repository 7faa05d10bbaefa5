-- What tee makes of files (own).
use Rattle.std.specs.Prelude.{Bool, List, [], ◌∷◌, if◌then◌else◌}
use Rattle.std.specs.List.{list_all}
use Rattle.mem_files.specs.Name.{Name, Bytes, is_openable}
use Rattle.mem_files.specs.Files.{FileMap, with_file}
use Rattle.meaning_model.specs.Value.{Value, fixed}

-- the files of these names hold these bytes, up to and without the first that can't be opened
abbrev pub filled : List Name → Bytes → FileMap → FileMap
filled [] bytes F = F
filled (name ∷ names) bytes F = if is_openable name then filled names bytes (with_file F name bytes) else F

abbrev pub are_openable : List Name → Bool
are_openable names = list_all is_openable names

-- what each file is given: all of the input, but nothing where one of them can't be opened
abbrev pub tee_bytes : List Name → Bytes → Bytes
tee_bytes names input = if are_openable names then input else []

-- the input goes to standard output and to each file; where one can't be opened, nothing is read
abbrev pub tee_value : List Name → Bytes → FileMap → Value
tee_value names input F =
    if are_openable names then fixed input [] (filled names input F) else fixed [] input (filled names [] F)
