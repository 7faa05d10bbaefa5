-- How many bytes what is left to do still writes at most, and how many steps it still makes: by how many bytes of input are
-- left and the size of each file, whatever the order of the steps.
use Rattle.std.specs.Prelude.{ℕ, ◌+◌, ◌-◌, ◌*◌, Bool, List, length, Option, Some, None, if◌then◌else◌}
use Rattle.sh_tree.specs.declared.tree.Mode.{Mode}
use Rattle.sh_tree.specs.declared.tree.Mode.TheVariants.{Input, Fresh, Over}
use Rattle.sh_tree.specs.Tree.{Tree, exec, redir, pipe, list, back}
use Rattle.mem_files.specs.Name.{Bytes}
use Rattle.mem_files.specs.Files.{FileMap}
use Rattle.script_load.specs.Line.{ScriptLine}
use Rattle.meaning_model.specs.Meaning.{script_tree}
use Rattle.user_progs.specs.State.{State}
use Rattle.tree_model.specs.Ahead.{still_uses}
use Rattle.tree_model.specs.Alone.{OwnFile}
use Rattle.tree_model.specs.Exits.{calls_left, width}
use Rattle.tree_model.specs.FilesAhead.{Sizes, sizes, files_ahead}
use Rattle.tree_model.specs.Residual.{Running, Residual, done, todo, running, seq, piped, unopened, from, into}
use Rattle.tree_model.specs.Answers.{Kind, leaves, reads_input, writes_output, asks, kind_of}
use Rattle.tree_model.specs.Begin.{begun_words}
use Rattle.tree_model.specs.ProgramBytes.{call_bytes, later_bytes}

-- a program still reads the input that is left, if it reads it, and what is ahead of its files
abbrev pub input_ahead : Bool → ℕ → ℕ
input_ahead uses n = if uses then n else 0

abbrev pub reads_ahead : State → List OwnFile → ℕ → Sizes → ℕ
reads_ahead state own n L = input_ahead (still_uses state) n + files_ahead state own L

-- the bytes that it writes: what is left of its call, and what comes later
abbrev pub run_bytes : Running → ℕ → Sizes → ℕ
run_bytes run n L = call_bytes run.turn.call run.put + later_bytes run.turn.next (reads_ahead run.turn.next run.own n L)

-- its steps: its call, those that follow it, and one more for each byte that is written, since a write may be put byte by byte
abbrev pub calls_after : Kind → ℕ → ℕ
calls_after leaves calls = 0
calls_after (reads_input most) calls = calls
calls_after (writes_output bytes) calls = calls
calls_after asks calls = calls

abbrev pub calls_ahead : State → ℕ → ℕ
calls_ahead state r = calls_left state + r * width state

abbrev pub run_steps : Running → ℕ → Sizes → ℕ
run_steps run n L = 1 + calls_after (kind_of run.turn.call) (calls_ahead run.turn.next (reads_ahead run.turn.next run.own n L)) + run_bytes run n L

-- a command that was not begun, on n bytes of input

abbrev pub begun_bytes : Option Running → ℕ → Sizes → ℕ
begun_bytes None n L = 0
begun_bytes (Some run) n L = run_bytes run n L

abbrev pub begun_steps : Option Running → ℕ → Sizes → ℕ
begun_steps None n L = 0
begun_steps (Some run) n L = run_steps run n L

-- the input of a redirection's body: the file under <
abbrev pub input_under : Mode → ℕ → ℕ → ℕ
input_under Input n size = size
input_under Fresh n size = n
input_under Over n size = n

-- files that may have grown by so many bytes
abbrev pub grown : Sizes → ℕ → Sizes
grown L more name = L name + more

-- the right side of a pipe reads what the left side writes, and what follows in a list finds files that grew by it
abbrev pub tree_bytes : Tree → ℕ → Sizes → ℕ
tree_bytes (exec words) n L = begun_bytes (begun_words words) n L
tree_bytes (redir mode name body) n L = tree_bytes body (input_under mode n (L name)) L
tree_bytes (pipe left right) n L = tree_bytes left n L + tree_bytes right (tree_bytes left n L) L
tree_bytes (list left right) n L = tree_bytes left n L + tree_bytes right n (grown L (tree_bytes left n L))
tree_bytes (back body) n L = 0

abbrev pub tree_steps : Tree → ℕ → Sizes → ℕ
tree_steps (exec words) n L = 1 + begun_steps (begun_words words) n L
tree_steps (redir mode name body) n L = 3 + tree_steps body (input_under mode n (L name)) L
tree_steps (pipe left right) n L = 2 + (tree_steps left n L + tree_steps right (tree_bytes left n L) L)
tree_steps (list left right) n L = 2 + (tree_steps left n L + tree_steps right n (grown L (tree_bytes left n L)))
tree_steps (back body) n L = 0

-- so with what is left of one: the right side of a pipe also reads what the pipe holds
abbrev pub bytes_left : Residual → ℕ → Sizes → ℕ
bytes_left done n L = 0
bytes_left (todo tree) n L = tree_bytes tree n L
bytes_left (running run) n L = run_bytes run n L
bytes_left (seq first later) n L = bytes_left first n L + tree_bytes later n (grown L (bytes_left first n L))
bytes_left (piped lost left bytes right) n L = bytes_left left n L + bytes_left right (length bytes + bytes_left left n L) L
bytes_left (unopened mode name body) n L = tree_bytes body (input_under mode n (L name)) L
bytes_left (from name at body) n L = bytes_left body (L name - at) L
bytes_left (into name at body) n L = bytes_left body n L

abbrev pub steps_left : Residual → ℕ → Sizes → ℕ
steps_left done n L = 0
steps_left (todo tree) n L = tree_steps tree n L
steps_left (running run) n L = run_steps run n L
steps_left (seq first later) n L = 1 + (steps_left first n L + tree_steps later n (grown L (bytes_left first n L)))
steps_left (piped lost left bytes right) n L = 1 + (steps_left left n L + steps_left right (length bytes + bytes_left left n L) L)
steps_left (unopened mode name body) n L = 2 + tree_steps body (input_under mode n (L name)) L
steps_left (from name at body) n L = 1 + steps_left body (L name - at) L
steps_left (into name at body) n L = 1 + steps_left body n L

-- the numbers that no run of a script exceeds
abbrev pub most_steps : List ScriptLine → Bytes → FileMap → ℕ
most_steps lines input F = tree_steps (script_tree lines) (length input) (sizes F)

abbrev pub most_bytes : List ScriptLine → Bytes → FileMap → ℕ
most_bytes lines input F = tree_bytes (script_tree lines) (length input) (sizes F)
