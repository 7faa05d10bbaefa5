-- By how many bytes each file that a script writes grows at most, whatever the order of its processes (own): one number for all of
-- these files. Files that have grown by it are read as so large, and still the script writes no more to all its files together.
use Rattle.std.specs.Prelude.{ℕ, ◌+◌, ◌≤◌, true, false, List, length}
use Rattle.mem_files.specs.Name.{Bytes}
use Rattle.mem_files.specs.Files.{FileMap}
use Rattle.prog_parts.specs.NameSets.{Names, among}
use Rattle.script_load.specs.Line.{ScriptLine}
use Rattle.meaning_model.specs.Meaning.{script_tree}
use Rattle.tree_model.specs.FilesAhead.{Sizes, sizes}
use Rattle.room_model.specs.Files.{names_written}
use Rattle.room_model.specs.Place.{counted_if, to_place}

abbrev pub every_name : Names
every_name name = true

-- whether the script writes a file of this name
abbrev pub is_written : List ScriptLine → Names
is_written lines name = among (names_written (script_tree lines)) name

-- the sizes of files of which those that the script writes have grown by so many bytes
abbrev pub grown_where : List ScriptLine → FileMap → ℕ → Sizes
grown_where lines F more name = sizes F name + counted_if (is_written lines name) more

-- how many bytes a script writes at most to files, whichever, where files become no larger than these sizes
abbrev pub to_files : List ScriptLine → Bytes → Sizes → ℕ
to_files lines input L = to_place every_name false (script_tree lines) (length input) L

-- where the files that it writes have grown by so many bytes, it writes no more than these to files
abbrev pub IsGrowth : List ScriptLine → Bytes → FileMap → ℕ → Type 0
IsGrowth lines input F more = to_files lines input (grown_where lines F more) ≤ more

-- and there is no smaller such number
pub record IsLeastGrowth (lines : List ScriptLine) (input : Bytes) (F : FileMap) (more : ℕ) : Type 0 where
  pub enough : IsGrowth lines input F more
  pub least : (other : ℕ) → IsGrowth lines input F other → more ≤ other
