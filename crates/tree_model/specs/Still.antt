-- What a program still does from a state on, when it runs alone: the remaining meaning of the state.
use Rattle.std.specs.Prelude.{ℕ, ◌+◌, List, [], ◌∷◌, ◌++◌, length, take, drop, Some}
use Rattle.mem_files.specs.Name.{Name, Bytes}
use Rattle.meaning_model.specs.Value.{Value, fixed, nothing}
use Rattle.meaning_model.specs.Inputs.{of_files}
use Rattle.prog_parts.specs.Grep.{grep_out, grep_left}
use Rattle.prog_parts.specs.Head.{first_lines, after_lines}
use Rattle.prog_parts.specs.Wc.{wc_line, line_ends, words_after, capped}
use Rattle.meaning_model.specs.Programs.{echo_out, program_value}
use Rattle.user_progs.specs.State.{Filter, copying, heading, counting, searching, Source, standard, file, Work, cat_reads, cat_writes, head_reads, head_writes, wc_reads, wc_writes, grep_reads, grep_writes, Tee, tee_opens, tee_reads, tee_writes, tee_gives, State, begins, echo_word, echo_space, opens, works, closes, tees, told, ended}
use Rattle.user_progs.specs.Turn.{Turn, filter_of, counts_line}
use Rattle.tree_model.specs.Alone.{World, left_at, to_out}
use Rattle.tree_model.specs.Given.{given, given_block, left_open}

-- what is written of an input of this name and these bytes, and what is left of it
abbrev pub of_input : Filter → Name → Bytes → Bytes
of_input copying name bytes = bytes
of_input (heading lines) name bytes = first_lines lines bytes
of_input counting name bytes = wc_line name bytes
of_input (searching pattern) name bytes = grep_out pattern bytes

-- what the work still writes of the bytes that are left of its input
abbrev pub work_out : Work → Name → Bytes → Bytes
work_out cat_reads name left = left
work_out cat_writes name left = left
work_out (head_reads lines wanted) name left = first_lines wanted left
work_out (head_writes lines wanted) name left = first_lines wanted left
work_out (wc_reads lines words count inside) name left =
    counts_line (capped (lines + line_ends left)) (capped (words + words_after inside left)) (capped (count + length left)) name
work_out wc_writes name left = []
work_out (grep_reads pattern kept) name left = grep_out pattern (kept ++ left)
work_out (grep_writes pattern rest) name left = grep_out pattern (rest ++ left)

-- what it leaves of them
abbrev pub work_rest : Work → Bytes → Bytes
work_rest cat_reads left = []
work_rest cat_writes left = []
work_rest (head_reads lines wanted) left = after_lines wanted left
work_rest (head_writes lines wanted) left = after_lines wanted left
work_rest (wc_reads lines words count inside) left = []
work_rest wc_writes left = left
work_rest (grep_reads pattern kept) left = grep_left (kept ++ left)
work_rest (grep_writes pattern rest) left = grep_left (rest ++ left)

abbrev pub work_still : Work → Source → World → Value
work_still work standard world = fixed (work_out work [] world.input) (work_rest work world.input) world.files
work_still work (file fd name later) world =
    fixed (work_out work name (left_at fd world) ++ of_files (of_input (filter_of work)) later world.files) world.input world.files

-- after an argument of echo
abbrev pub echo_rest : List Bytes → Bytes
echo_rest [] = 10 ∷ []
echo_rest (argument ∷ later) = 32 ∷ echo_out (argument ∷ later)

-- what tee still does; a block that it writes is in no file so far, or in those before the one to which it is written now
abbrev pub tee_still : Tee → World → Value
tee_still (tee_opens fds name later) world = left_open fds (name ∷ later) world
tee_still (tee_reads fds) world = left_open fds [] world
tee_still (tee_writes fds bytes) world = fixed world.input [] (given fds world.own (bytes ++ world.input) world.files)
tee_still (tee_gives fds at bytes) world =
    fixed world.input [] (given_block (drop at fds) (take at fds) world.own bytes world.input world.files)

-- what a program does once the call that it waits for is answered; what that call writes to descriptor 1 is not in it
abbrev pub still : State → World → Value
still (begins program arguments) world = program_value (Some program) arguments world.input world.files
still (echo_word later) world = fixed (echo_rest later) world.input world.files
still (echo_space later) world = fixed (echo_out later) world.input world.files
still (opens filter name later) world = fixed (of_files (of_input filter) (name ∷ later) world.files) world.input world.files
still (works work source) world = work_still work source world
still (closes filter later) world = fixed (of_files (of_input filter) later world.files) world.input world.files
still (tees tee) world = tee_still tee world
still told world = nothing world.input world.files
still ended world = nothing world.input world.files

-- these bytes are written first
abbrev pub after_bytes : Bytes → Value → Value
after_bytes bytes value = record value { out = bytes ++ value.out }

-- the remaining meaning of a program that made a call, of whose bytes so many were put: what is left of these, and
-- what follows
abbrev pub left_of : Turn → ℕ → World → Value
left_of turn put world = after_bytes (drop put (to_out turn.call)) (still turn.next world)
