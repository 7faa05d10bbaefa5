-- What programs still open at most: a file for each word that names one, and is not opened yet.
use Rattle.std.proofs.Common.{◌≡◌, ℕ, ◌+◌, ◌≤◌, List, [], ◌∷◌, ◌++◌, Bool, true, false, length, subst, arith}
use Rattle.std.specs.Prelude.{nat_lt, if◌then◌else◌, slice_index_or}
use Rattle.mem_files.specs.Name.{Name, Bytes}
use Rattle.prog_parts.specs.declared.program.Program.{Program}
use Rattle.prog_parts.specs.declared.program.Program.TheVariants.{Cat, Echo, Grep, Head, Tee as Tee', Wc}
use Rattle.prog_parts.specs.Head.{head_files, has_wrong_option, line_count}
use Rattle.prog_parts.specs.Program.{file_words}
use Rattle.user_calls.specs.declared.calls.Call.{Call}
use Rattle.user_calls.specs.declared.calls.Call.TheVariants.{Fork, Exec, Exit, Wait, MakePipe, Read, Write, OpenFile, Close, Dup}
use Rattle.user_calls.specs.declared.calls.Reply.{Reply}
use Rattle.user_progs.specs.State.{Filter, copying, heading, counting, searching, Source, standard, file, Tee, tee_opens, tee_reads, tee_writes, tee_gives, State, begins, echo_word, echo_space, opens, works, closes, tees, told, ended}
use Rattle.user_progs.specs.Turn.{Turn, Answer, yields, denies, strays, bytes_in, fd_in, done_in, Step, reads, writes, finishes, fails, quits, turn_by, after_source, opens_next, opened_by, closed_by, first_step, begins_filter, begins_head, begins_grep, begins_program, echo_next, echo_end, work_step, filter_of, name_of, tee_opens_next, tee_opened, tee_got, tee_gives_next, tee_wrote, tee_turn, tee_cannot_open, tee_waits, turn}
use Rattle.law_limits.proofs.opens.Spending.{cost}

-- the files that come after this one
abbrev later_of : Source → ℕ
later_of standard = 0
later_of (file fd name later) = length later

abbrev tee_ahead : Tee → ℕ
tee_ahead (tee_opens fds name later) = length later
tee_ahead (tee_reads fds) = 0
tee_ahead (tee_writes fds bytes) = 0
tee_ahead (tee_gives fds at bytes) = 0

-- once the call that the state names is answered
abbrev pub program_ahead : State → ℕ
program_ahead (begins program arguments) = length (file_words program arguments)
program_ahead (echo_word later) = 0
program_ahead (echo_space later) = 0
program_ahead (opens filter name later) = length later
program_ahead (works work source) = later_of source
program_ahead (closes filter later) = length later
program_ahead (tees tee) = tee_ahead tee
program_ahead told = 0
program_ahead ended = 0

-- the call forks nothing
abbrev pub IsForkless : Call → Type 0
IsForkless Fork = ⊥
IsForkless (Exec found) = Unit {0}
IsForkless Exit = Unit {0}
IsForkless Wait = Unit {0}
IsForkless MakePipe = Unit {0}
IsForkless (Read fd n) = Unit {0}
IsForkless (Write fd b) = Unit {0}
IsForkless (OpenFile name mode) = Unit {0}
IsForkless (Close fd) = Unit {0}
IsForkless (Dup fd) = Unit {0}

pub no_fork : (made : Call) → IsForkless made → made ≡ Fork → ⊥
no_fork made forkless is = subst (λ (c : Call). IsForkless c) is forkless

-- such a turn opens so much at most, and forks nothing
pub record Opens (n : ℕ) (t : Turn) : Type 0 where
  pub most : cost t.call + program_ahead t.next ≤ n
  pub forkless : IsForkless t.call

next_opens : (filter : Filter) (later : List Name) → Opens (length later) (opens_next filter later)
next_opens filter [] = record { most = omega arith; forkless = tt }
next_opens filter (name ∷ later) = record { most = omega arith; forkless = tt }

after_opens : (filter : Filter) (source : Source) → Opens (later_of source) (after_source filter source)
after_opens filter standard = record { most = omega arith; forkless = tt }
after_opens filter (file fd name later) = record { most = omega arith; forkless = tt }

step_opens : (step : Step) (filter : Filter) (source : Source) → Opens (later_of source) (turn_by step filter source)
step_opens (reads most work) filter source = record { most = omega arith; forkless = tt }
step_opens (writes bytes work) filter source = record { most = omega arith; forkless = tt }
step_opens finishes filter source = after_opens filter source
step_opens (fails message) filter source = record { most = omega arith; forkless = tt }
step_opens quits filter source = record { most = omega arith; forkless = tt }

opened_opens : (filter : Filter) (name : Name) (later : List Name) (answer : Answer ℕ) → Opens (length later) (opened_by filter name later answer)
opened_opens filter name later (yields fd) = step_opens (first_step filter) filter (file fd name later)
opened_opens filter name later denies = record { most = omega arith; forkless = tt }
opened_opens filter name later strays = record { most = omega arith; forkless = tt }

closed_opens : (filter : Filter) (later : List Name) (answer : Answer (Unit {0})) → Opens (length later) (closed_by filter later answer)
closed_opens filter later (yields done) = next_opens filter later
closed_opens filter later denies = record { most = omega arith; forkless = tt }
closed_opens filter later strays = record { most = omega arith; forkless = tt }

filter_opens : (filter : Filter) (names : List Name) → Opens (length names) (begins_filter filter names)
filter_opens filter [] = step_opens (first_step filter) filter standard
filter_opens filter (name ∷ later) = next_opens filter (name ∷ later)

head_opens : (b : Bool) (arguments : List Bytes) → Opens (length (head_files arguments)) (begins_head b arguments)
head_opens true arguments = record { most = omega arith; forkless = tt }
head_opens false arguments = filter_opens (heading (line_count arguments)) (head_files arguments)

grep_opens : (arguments : List Bytes) → Opens (length (file_words Grep arguments)) (begins_grep arguments)
grep_opens [] = record { most = omega arith; forkless = tt }
grep_opens (pattern ∷ names) = filter_opens (searching pattern) names

echo_opens : (arguments : List Bytes) → Opens 0 (echo_next arguments)
echo_opens [] = record { most = omega arith; forkless = tt }
echo_opens (argument ∷ later) = record { most = omega arith; forkless = tt }

ends_opens : (arguments : List Bytes) → Opens 0 (echo_end arguments)
ends_opens [] = record { most = omega arith; forkless = tt }
ends_opens (argument ∷ later) = record { most = omega arith; forkless = tt }

tee_next_opens : (fds : List ℕ) (names : List Name) → Opens (length names) (tee_opens_next fds names)
tee_next_opens fds [] = record { most = omega arith; forkless = tt }
tee_next_opens fds (name ∷ later) = record { most = omega arith; forkless = tt }

tee_opened_opens : (fds : List ℕ) (name : Name) (later : List Name) (answer : Answer ℕ) → Opens (length later) (tee_opened fds name later answer)
tee_opened_opens fds name later denies = record { most = omega arith; forkless = tt }
tee_opened_opens fds name later strays = record { most = omega arith; forkless = tt }
tee_opened_opens fds name later (yields fd) = by (nat_lt (length fds) 16) where
  by : (b : Bool) → Opens (length later) (if b then tee_opens_next (fds ++ fd ∷ []) later else tee_cannot_open name)
  by true = tee_next_opens (fds ++ fd ∷ []) later
  by false = record { most = omega arith; forkless = tt }

tee_got_opens : (fds : List ℕ) (answer : Answer Bytes) → Opens 0 (tee_got fds answer)
tee_got_opens fds (yields []) = record { most = omega arith; forkless = tt }
tee_got_opens fds (yields (byte ∷ bytes)) = record { most = omega arith; forkless = tt }
tee_got_opens fds denies = record { most = omega arith; forkless = tt }
tee_got_opens fds strays = record { most = omega arith; forkless = tt }

tee_gives_opens : (fds : List ℕ) (at : ℕ) (bytes : Bytes) → Opens 0 (tee_gives_next fds at bytes)
tee_gives_opens fds at bytes = by (nat_lt at (length fds)) where
  by : (b : Bool) → Opens 0 (if b then record { call = Write (slice_index_or fds at 0) bytes; next = tees (tee_gives fds at bytes) } else tee_waits fds)
  by true = record { most = omega arith; forkless = tt }
  by false = record { most = omega arith; forkless = tt }

tee_wrote_opens : (fds : List ℕ) (at : ℕ) (bytes : Bytes) (answer : Answer (Unit {0})) → Opens 0 (tee_wrote fds at bytes answer)
tee_wrote_opens fds at bytes (yields done) = tee_gives_opens fds at bytes
tee_wrote_opens fds at bytes denies = record { most = omega arith; forkless = tt }
tee_wrote_opens fds at bytes strays = record { most = omega arith; forkless = tt }

tee_turn_opens : (tee : Tee) (reply : Reply) → Opens (tee_ahead tee) (tee_turn tee reply)
tee_turn_opens (tee_opens fds name later) reply = tee_opened_opens fds name later (fd_in reply)
tee_turn_opens (tee_reads fds) reply = tee_got_opens fds (bytes_in reply)
tee_turn_opens (tee_writes fds bytes) reply = tee_wrote_opens fds 0 bytes (done_in reply)
tee_turn_opens (tee_gives fds at bytes) reply = tee_wrote_opens fds (at + 1) bytes (done_in reply)

begun_opens : (program : Program) (arguments : List Bytes) → Opens (length (file_words program arguments)) (begins_program program arguments)
begun_opens Cat arguments = filter_opens copying arguments
begun_opens Echo arguments = echo_opens arguments
begun_opens Grep arguments = grep_opens arguments
begun_opens Head arguments = head_opens (has_wrong_option arguments) arguments
begun_opens Tee' arguments = tee_next_opens [] arguments
begun_opens Wc arguments = filter_opens counting arguments

pub turn_opens : (state : State) (reply : Reply) → Opens (program_ahead state) (turn state reply)
turn_opens (begins program arguments) reply = begun_opens program arguments
turn_opens (echo_word later) reply = ends_opens later
turn_opens (echo_space later) reply = echo_opens later
turn_opens (opens filter name later) reply = opened_opens filter name later (fd_in reply)
turn_opens (works work source) reply = step_opens (work_step work (name_of source) reply) (filter_of work) source
turn_opens (closes filter later) reply = closed_opens filter later (done_in reply)
turn_opens (tees tee) reply = tee_turn_opens tee reply
turn_opens told reply = record { most = omega arith; forkless = tt }
turn_opens ended reply = record { most = omega arith; forkless = tt }
