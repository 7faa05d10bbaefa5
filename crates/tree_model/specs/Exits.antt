-- The calls that a program makes on replies, and how many bytes these hold; how many calls a state still makes up to Exit.
use Rattle.std.specs.Prelude.{ℕ, ◌+◌, ◌-◌, ◌*◌, List, [], ◌∷◌, length}
use Rattle.mem_files.specs.Name.{Bytes}
use Rattle.user_calls.specs.declared.calls.Call.{Call}
use Rattle.user_calls.specs.declared.calls.Reply.{Reply}
use Rattle.prog_parts.specs.Wc.{line_ends}
use Rattle.user_progs.specs.State.{Source, standard, file, Work, cat_reads, cat_writes, head_reads, head_writes, wc_reads, wc_writes, grep_reads, grep_writes, Tee, tee_opens, tee_reads, tee_writes, tee_gives, State, begins, echo_word, echo_space, opens, works, closes, tees, told, ended}
use Rattle.user_progs.specs.Turn.{Answer, yields, denies, strays, bytes_in, call_of, next_of}

-- the calls that a state makes on these replies, one after the other
abbrev pub calls_on : State → List Reply → List Call
calls_on state [] = []
calls_on state (reply ∷ replies) = call_of state reply ∷ calls_on (next_of state reply) replies

abbrev pub bytes_told : Answer Bytes → ℕ
bytes_told (yields bytes) = length bytes
bytes_told denies = 0
bytes_told strays = 0

-- how many bytes these replies hold
abbrev pub bytes_read : List Reply → ℕ
bytes_read [] = 0
bytes_read (reply ∷ replies) = bytes_told (bytes_in reply) + bytes_read replies

-- (n + 4) * (W + 1), where n bytes are read and the program has W words: its name and these arguments
abbrev pub calls_for : ℕ → List Bytes → ℕ
calls_for n arguments = (n + 4) * (length arguments + 2)

abbrev pub most_calls : List Bytes → List Reply → ℕ
most_calls arguments replies = calls_for (bytes_read replies) arguments

-- the calls that are still made at most, where no more bytes are read

-- once the work on an input is done
abbrev pub calls_after : Source → ℕ
calls_after standard = 1
calls_after (file fd name later) = 2 + 4 * length later

-- in the work on it
abbrev pub calls_in : Work → ℕ
calls_in cat_reads = 1
calls_in cat_writes = 2
calls_in (head_reads lines wanted) = 1
calls_in (head_writes lines wanted) = 2
calls_in (wc_reads lines words count inside) = 1
calls_in wc_writes = 0
calls_in (grep_reads pattern kept) = line_ends kept
calls_in (grep_writes pattern rest) = line_ends rest + 1

abbrev pub calls_of_tee : Tee → ℕ
calls_of_tee (tee_opens fds name later) = length later + 3
calls_of_tee (tee_reads fds) = 2
calls_of_tee (tee_writes fds bytes) = length fds + 3
calls_of_tee (tee_gives fds at bytes) = length fds - (at + 1) + 3

abbrev pub calls_left : State → ℕ
calls_left (begins program arguments) = 4 * length arguments + 8
calls_left (echo_word later) = 2 * length later + 2
calls_left (echo_space later) = 2 * length later + 1
calls_left (opens filter name later) = 4 * length later + 4
calls_left (works work source) = calls_in work + calls_after source
calls_left (closes filter later) = 4 * length later + 1
calls_left (tees tee) = calls_of_tee tee
calls_left told = 1
calls_left ended = 1

-- how many calls a byte pays for: tee makes as many of each byte as it has files, and two more
abbrev pub tee_width : Tee → ℕ
tee_width (tee_opens fds name later) = length fds + length later + 3
tee_width (tee_reads fds) = length fds + 2
tee_width (tee_writes fds bytes) = length fds + 2
tee_width (tee_gives fds at bytes) = length fds + 2

abbrev pub width : State → ℕ
width (begins program arguments) = length arguments + 2
width (echo_word later) = 2
width (echo_space later) = 2
width (opens filter name later) = 2
width (works work source) = 2
width (closes filter later) = 2
width (tees tee) = tee_width tee
width told = 2
width ended = 2
