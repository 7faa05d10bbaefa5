-- How many bytes of files a program may still read, by its state and its open files: of files, sizes alone count.
use Rattle.std.specs.Prelude.{ℕ, zero, suc, ◌+◌, ◌-◌, List, [], ◌∷◌, length, Option, Some, None}
use Rattle.mem_files.specs.Name.{Name}
use Rattle.mem_files.specs.Files.{FileMap, bytes_of}
use Rattle.prog_parts.specs.Program.{file_words}
use Rattle.user_calls.specs.declared.calls.Call.{Call}
use Rattle.user_calls.specs.declared.calls.Call.TheVariants.{Fork, Exec, Exit, Wait, MakePipe, Read, Write, OpenFile, Close, Dup}
use Rattle.user_calls.specs.declared.calls.Reply.{Reply}
use Rattle.user_progs.specs.State.{Source, standard, file, State, begins, echo_word, echo_space, opens, works, closes, tees, told, ended}
use Rattle.user_progs.specs.Turn.{bytes_in}
use Rattle.tree_model.specs.Alone.{OwnFile, held}
use Rattle.tree_model.specs.Exits.{bytes_told}

abbrev pub Sizes : Type 0
Sizes = Name → ℕ

-- how many bytes each file has
abbrev pub sizes : FileMap → Sizes
sizes F name = length (bytes_of (F name))

-- from where an open file goes on
abbrev pub left_in_file : Option OwnFile → Sizes → ℕ
left_in_file None L = 0
left_in_file (Some own) L = L own.name - own.at

-- of the files of these names
abbrev pub all_sizes : List Name → Sizes → ℕ
all_sizes [] L = 0
all_sizes (name ∷ later) L = L name + all_sizes later L

abbrev pub source_ahead : Source → List OwnFile → Sizes → ℕ
source_ahead standard own L = 0
source_ahead (file fd name later) own L = left_in_file (held own fd) L + all_sizes later L

abbrev pub files_ahead : State → List OwnFile → Sizes → ℕ
files_ahead (begins program arguments) own L = all_sizes (file_words program arguments) L
files_ahead (echo_word later) own L = 0
files_ahead (echo_space later) own L = 0
files_ahead (opens filter name later) own L = L name + all_sizes later L
files_ahead (works work source) own L = source_ahead source own L
files_ahead (closes filter later) own L = all_sizes later L
files_ahead (tees tee) own L = 0
files_ahead told own L = 0
files_ahead ended own L = 0

-- how many bytes of a file this call is given, if it reads one
abbrev pub read_of_file : ℕ → Reply → ℕ
read_of_file zero reply = 0
read_of_file (suc fd) reply = bytes_told (bytes_in reply)

abbrev pub from_files : Call → Reply → ℕ
from_files Fork reply = 0
from_files (Exec is_known) reply = 0
from_files Exit reply = 0
from_files Wait reply = 0
from_files MakePipe reply = 0
from_files (Read fd most) reply = read_of_file fd reply
from_files (Write fd bytes) reply = 0
from_files (OpenFile name mode) reply = 0
from_files (Close fd) reply = 0
from_files (Dup fd) reply = 0
