-- How many bytes a command writes at most to one place: to its output, or to the files of some names. By how many bytes of input are
-- left and by how large each file becomes, whatever the order of the steps. A simple command counts whole, as its program reads and
-- writes at most, where it writes to the place at all.
use Rattle.std.specs.Prelude.{ℕ, ◌+◌, Bool, true, false, ◌||◌, if◌then◌else◌, List, [], ◌∷◌, Option, Some, None}
use Rattle.std.specs.List.{list_any}
use Rattle.sh_tree.specs.declared.tree.Mode.{Mode}
use Rattle.sh_tree.specs.declared.tree.Mode.TheVariants.{Input, Fresh, Over}
use Rattle.sh_tree.specs.Tree.{Tree, exec, redir, pipe, list, back}
use Rattle.mem_files.specs.Name.{Name, Bytes}
use Rattle.prog_parts.specs.declared.program.Program.{Program}
use Rattle.prog_parts.specs.Program.{program_of, program_uses_input}
use Rattle.prog_parts.specs.NameSets.{Names, no_names}
use Rattle.prog_parts.specs.Words.{files_read, words_files_written}
use Rattle.tree_model.specs.FilesAhead.{Sizes, all_sizes}
use Rattle.tree_model.specs.Bound.{input_ahead, input_under}
use Rattle.tree_model.specs.ProgramBytes.{begin_bytes}

-- a program reads its input, if it reads that, and the files that it names to read; without a program nothing is written
abbrev pub program_bytes : Option Program → List Bytes → ℕ → Sizes → ℕ
program_bytes None arguments n L = 0
program_bytes (Some program) arguments n L = begin_bytes program arguments (input_ahead (program_uses_input program arguments) n + all_sizes (files_read program arguments) L)

abbrev pub words_bytes : List Bytes → ℕ → Sizes → ℕ
words_bytes [] n L = 0
words_bytes (word ∷ arguments) n L = program_bytes (program_of word) arguments n L

-- so many, where they count
abbrev pub counted_if : Bool → ℕ → ℕ
counted_if counts n = if counts then n else 0

-- whether a redirection's body has the place as its output: that of the command, or the file behind `>`
abbrev pub output_under : Names → Mode → Name → Bool → Bool
output_under named Input name out = out
output_under named Fresh name out = named name
output_under named Over name out = named name

-- `out`: the command's output is the place. The right side of a pipe reads what the left side writes to its output
abbrev pub to_place : Names → Bool → Tree → ℕ → Sizes → ℕ
to_place named out (exec words) n L = counted_if (out || list_any named (words_files_written words)) (words_bytes words n L)
to_place named out (redir mode name body) n L = to_place named (output_under named mode name out) body (input_under mode n (L name)) L
to_place named out (pipe left right) n L = to_place named false left n L + to_place named out right (to_place no_names true left n L) L
to_place named out (list left right) n L = to_place named out left n L + to_place named out right n L
to_place named out (back body) n L = to_place named out body n L
