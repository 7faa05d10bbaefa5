-- How large the files of a script become at most.
use Rattle.std.specs.Prelude.{◌+◌, ◌≤◌, List}
use Rattle.mem_files.specs.Name.{Name, Bytes}
use Rattle.mem_files.specs.Files.{files}
use Rattle.mem_files.specs.Listing.{max_size}
use Rattle.tree_model.specs.FilesAhead.{sizes}
use Rattle.script_load.specs.Line.{ScriptLine}
use Rattle.tree_model.specs.Bound.{most_bytes}

-- no file can become too large: the bytes that it has, and all that the script writes at most, to whatever file
abbrev pub FilesStaySmall : List ScriptLine → Bytes → List (Name × Bytes) → Type 0
FilesStaySmall lines input list = (name : Name) → sizes (files list) name + most_bytes lines input (files list) ≤ max_size
