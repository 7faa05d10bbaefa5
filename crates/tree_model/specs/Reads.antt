-- How many bytes a program function reads of its inputs: of each what it doesn't leave.
use Rattle.std.specs.Prelude.{ℕ, ◌+◌, ◌-◌, List, [], ◌∷◌, length, Option, Some, None, if◌then◌else◌}
use Rattle.mem_files.specs.Name.{Name, Bytes}
use Rattle.mem_files.specs.Files.{FileMap}
use Rattle.prog_parts.specs.declared.program.Program.{Program}
use Rattle.prog_parts.specs.declared.program.Program.TheVariants.{Cat, Echo, Grep, Head, Tee, Wc}
use Rattle.prog_parts.specs.Head.{head_files, has_wrong_option}
use Rattle.meaning_model.specs.Inputs.{found}
use Rattle.prog_parts.specs.Grep.{grep_left}
use Rattle.prog_parts.specs.Head.{after_lines, line_count}
use Rattle.meaning_model.specs.Tee.{are_openable}
use Rattle.user_progs.specs.State.{Filter, copying, heading, counting, searching}

-- what is left of an input that was worked on
abbrev pub unread : Filter → Bytes → Bytes
unread copying bytes = []
unread (heading lines) bytes = after_lines lines bytes
unread counting bytes = []
unread (searching pattern) bytes = grep_left bytes

-- how many bytes are read of an input
abbrev pub taken : Filter → Bytes → ℕ
taken filter bytes = length bytes - length (unread filter bytes)

-- of files in order, up to and without the first that is not found
abbrev pub taken_of_found : Option Bytes → Filter → ℕ → ℕ
taken_of_found None filter later = 0
taken_of_found (Some bytes) filter later = taken filter bytes + later

abbrev pub taken_of_files : Filter → List Name → FileMap → ℕ
taken_of_files filter [] F = 0
taken_of_files filter (name ∷ names) F = taken_of_found (found F name) filter (taken_of_files filter names F)

-- of standard input where there are no file words, else of the files
abbrev pub taken_of_inputs : Filter → List Name → Bytes → FileMap → ℕ
taken_of_inputs filter [] input F = taken filter input
taken_of_inputs filter (name ∷ names) input F = taken_of_files filter (name ∷ names) F

abbrev pub bytes_of_function : Program → List Bytes → Bytes → FileMap → ℕ
bytes_of_function Cat arguments input F = taken_of_inputs copying arguments input F
bytes_of_function Echo arguments input F = 0
bytes_of_function Grep [] input F = 0
bytes_of_function Grep (pattern ∷ names) input F = taken_of_inputs (searching pattern) names input F
bytes_of_function Head arguments input F =
    if has_wrong_option arguments then 0 else taken_of_inputs (heading (line_count arguments)) (head_files arguments) input F
bytes_of_function Tee names input F = if are_openable names then length input else 0
bytes_of_function Wc arguments input F = taken_of_inputs counting arguments input F
