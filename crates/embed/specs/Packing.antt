-- Files as one block of bytes, with a table of lengths.
use Rattle.std.specs.Prelude.{ℕ, Bool, true, false, List, [], ◌∷◌, ◌++◌, length}
use Rattle.prog_parts.specs.NameSets.{Names}
use Rattle.mem_files.specs.Name.{Name, Bytes}
use Rattle.embed.specs.declared.packing.FileSizes.{FileSizes}

-- 1 for a file whose bytes may depend on the order of processes
abbrev pub mark_of : Bool → ℕ
mark_of false = 0
mark_of true = 1

abbrev pub sizes_of_one : Bool → Name → Bytes → FileSizes
sizes_of_one is_soft name bytes = record { name = length name; bytes = length bytes; soft = mark_of is_soft }

-- how long the name and the bytes of each file are, and whether it is among the soft ones
abbrev pub sizes_of : Names → List (Name × Bytes) → List FileSizes
sizes_of soft [] = []
sizes_of soft (file ∷ files) = sizes_of_one (soft file.0) file.0 file.1 ∷ sizes_of soft files

-- the name of each file, and behind it its bytes
abbrev pub block_of : List (Name × Bytes) → Bytes
block_of [] = []
block_of (file ∷ files) = (file.0 ++ file.1) ++ block_of files
