-- The list of all files.
use Rattle.std.specs.Prelude.{Bool, true, false, List, [], ◌∷◌, ◌++◌, length, codes}
use Rattle.std.specs.Fmt.{decimal}
use Rattle.prog_parts.specs.NameSets.{Names}
use Rattle.mem_files.specs.Name.{Name, Bytes}

-- what stands behind the length of a file whose bytes may depend on the order of processes
abbrev pub soft_mark : Bool → Bytes
soft_mark false = []
soft_mark true = codes " soft"

-- a file: `-- NAME LENGTH`, the mark if it is soft, and LF, its bytes, and LF
abbrev pub file_text : Bool → Name → Bytes → Bytes
file_text is_soft name bytes = codes "-- " ++ (name ++ (32 ∷ (decimal (length bytes) ++ (soft_mark is_soft ++ (10 ∷ (bytes ++ 10 ∷ []))))))

-- the files, one after the other, of which these are soft
abbrev pub list_text : Names → List (Name × Bytes) → Bytes
list_text soft [] = []
list_text soft (file ∷ files) = file_text (soft file.0) file.0 file.1 ++ list_text soft files
