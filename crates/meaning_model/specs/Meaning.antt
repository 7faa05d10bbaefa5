-- The recursive meaning of commands and scripts, by recursion on the tree: no process, descriptor, count, buffer or schedule.
use Rattle.std.specs.Prelude.{Bool, true, false, List, [], ◌∷◌, ◌++◌, Option, Some, None}
use Rattle.sh_tree.specs.declared.tree.Mode.{Mode}
use Rattle.sh_tree.specs.declared.tree.Mode.TheVariants.{Input, Fresh, Over}
use Rattle.sh_tree.specs.Tree.{Tree, exec, redir, pipe, list, back}
use Rattle.mem_files.specs.Name.{Name, Bytes, is_openable}
use Rattle.mem_files.specs.Files.{FileMap, with_file, bytes_of}
use Rattle.mem_files.specs.Overlay.{overlay}
use Rattle.conflict_check.specs.Names.{writes, uses_input}
use Rattle.script_load.specs.declared.profile.Profile.{Profile}
use Rattle.script_load.specs.declared.profile.Profile.TheVariants.{Xv6, Append}
use Rattle.script_load.specs.Line.{ScriptLine, command, bad, cd}
use Rattle.meaning_model.specs.Inputs.{found}
use Rattle.meaning_model.specs.Programs.{words_value}
use Rattle.meaning_model.specs.Value.{Value, nothing, seq_value, pipe_value, from_value, into_value}

-- a command under <, where this was found of its file: without a file nothing is done
abbrev pub input_value : Option Bytes → Bytes → FileMap → (Bytes → Value) → Value
input_value None input F body = nothing input F
input_value (Some bytes) input F body = from_value input (body bytes)

-- a command under > or >>: if its file's name can't be opened nothing is done
abbrev pub output_value : Bool → Bytes → FileMap → Value → Value
output_value false input F done = nothing input F
output_value true input F done = done

-- the file's bytes at the end, where >> was opened on these and this was written: xv6 writes from the file's beginning
-- on, the other profile at its end (own)
abbrev pub over_end : Profile → Bytes → Bytes → Bytes
over_end Xv6 old out = overlay out old
over_end Append old out = old ++ out

-- a simple command is its program's function. Under < the body reads the file's bytes in place of the input. Under > the file
-- is emptied first, and at the end it holds what the body wrote; under >> it is there first, and at the end it holds what
-- `over_end` says. The sides of a pipe and of a list follow each other, and & changes nothing
abbrev pub meaning : Profile → Tree → Bytes → FileMap → Value
meaning profile (exec words) input F = words_value words input F
meaning profile (redir Input name body) input F =
    input_value (found F name) input F (λ bytes. meaning profile body bytes F)
meaning profile (redir Fresh name body) input F =
    output_value (is_openable name) input F
    (let done = meaning profile body input (with_file F name []) in into_value name done.out done)
meaning profile (redir Over name body) input F =
    output_value (is_openable name) input F
    (let done = meaning profile body input (with_file F name (bytes_of (F name))) in into_value name (over_end profile (bytes_of (F name)) done.out) done)
meaning profile (pipe left right) input F =
    pipe_value (writes left) (uses_input left) (meaning profile left input F)
    (meaning profile right (meaning profile left input F).out (meaning profile left input F).files)
meaning profile (list left right) input F =
    seq_value (meaning profile left input F) (meaning profile right (meaning profile left input F).rest (meaning profile left input F).files)
meaning profile (back body) input F = meaning profile body input F

-- a line as a command: one that is no command does nothing
abbrev pub line_tree : ScriptLine → Tree
line_tree (command tree) = tree
line_tree (bad fault text) = exec []
line_tree (cd text) = exec []

-- a script as one command: its lines follow each other, and last comes a command without words
abbrev pub script_tree : List ScriptLine → Tree
script_tree [] = exec []
script_tree (line ∷ lines) = list (line_tree line) (script_tree lines)

abbrev pub script_meaning : Profile → List ScriptLine → Bytes → FileMap → Value
script_meaning profile lines input F = meaning profile (script_tree lines) input F

-- the parts of a redirection, by its mode. The files once its file was opened: > empties it, >> keeps what it holds
abbrev pub opened : Mode → Name → FileMap → FileMap
opened Input name F = F
opened Fresh name F = with_file F name []
opened Over name F = with_file F name (bytes_of (F name))

-- the file's bytes at the end, where a redirection was opened on these and this was written
abbrev pub at_end : Profile → Mode → Bytes → Bytes → Bytes
at_end profile Input old out = old
at_end profile Fresh old out = out
at_end profile Over old out = over_end profile old out

-- and the value of the command, from the value of its body
abbrev pub written_value : Profile → Mode → Name → FileMap → Value → Value
written_value profile mode name F body = into_value name (at_end profile mode (bytes_of (F name)) body.out) body
