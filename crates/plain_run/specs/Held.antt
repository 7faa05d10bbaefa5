-- What a redirection leaves in place of a file.
use Rattle.std.specs.Prelude.{[]}
use Rattle.sh_tree.specs.declared.tree.Mode.{Mode}
use Rattle.sh_tree.specs.declared.tree.Mode.TheVariants.{Input, Fresh, Over}
use Rattle.mem_files.specs.Name.{Name, Bytes}
use Rattle.mem_files.specs.Files.{FileMap, bytes_of}

-- under >> all that it holds, else nothing
abbrev pub held : Mode → FileMap → Name → Bytes
held Input F name = []
held Fresh F name = []
held Over F name = bytes_of (F name)
