-- Files as a map from names to bytes.
use Rattle.std.specs.Prelude.{Option, Some, None, List, [], ◌∷◌, if◌then◌else◌}
use Rattle.std.specs.Str.{bytes_eq}
use Rattle.mem_files.specs.Name.{Name, Bytes}

-- what each name holds, if there is a file of that name
abbrev pub FileMap : Type 0
FileMap = Name → Option Bytes

-- there is no file
abbrev pub no_files : FileMap
no_files name = None

-- the file of that name holds these bytes, and each other name holds what it held
abbrev pub with_file : FileMap → Name → Bytes → FileMap
with_file F name bytes other = if bytes_eq other name then Some bytes else F other

-- what is read of a name that may have no file
abbrev pub bytes_of : Option Bytes → Bytes
bytes_of None = []
bytes_of (Some bytes) = bytes

-- the map that a list of files stands for
abbrev pub files : List (Name × Bytes) → FileMap
files [] name = None
files (file ∷ rest) name = if bytes_eq name file.0 then Some file.1 else files rest name
