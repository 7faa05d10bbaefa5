-- Within which sizes the files of a script stay.
use Rattle.std.specs.Prelude.{ℕ, ◌+◌, ◌≤◌, false, List, length}
use Rattle.std.specs.Str.{bytes_eq}
use Rattle.mem_files.specs.Name.{Name, Bytes}
use Rattle.mem_files.specs.Files.{FileMap}
use Rattle.script_load.specs.Line.{ScriptLine}
use Rattle.meaning_model.specs.Meaning.{script_tree}
use Rattle.tree_model.specs.FilesAhead.{Sizes, sizes}
use Rattle.room_model.specs.Place.{to_place}

-- how many bytes a script writes at most to the file of this name, where files become no larger than these sizes
abbrev pub to_file : Name → List ScriptLine → Bytes → Sizes → ℕ
to_file name lines input L = to_place (bytes_eq name) false (script_tree lines) (length input) L

-- each file is within its size, with all that the script writes to it as long as no file exceeds its own
abbrev pub KeepsWithin : List ScriptLine → Bytes → FileMap → Sizes → Type 0
KeepsWithin lines input F L = (name : Name) → sizes F name + to_file name lines input L ≤ L name
