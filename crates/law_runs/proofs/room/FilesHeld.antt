-- How many files a program has open at once, by its state and the call that it makes: no call makes it more.
use Rattle.std.proofs.Common.{◌≡◌, ℕ, zero, suc, ◌+◌, ◌≤◌, ◌==◌, Bool, true, false, List, [], ◌∷◌, ◌++◌, Option, Some, None, length, refl, arith}
use Rattle.std.specs.Prelude.{if◌then◌else◌, nat_lt}
use Rattle.std.specs.Option.{is_some}
use Rattle.mem_files.specs.Name.{Name, Bytes}
use Rattle.mem_files.specs.Files.{FileMap}
use Rattle.prog_parts.specs.declared.program.Program.{Program}
use Rattle.prog_parts.specs.declared.program.Program.TheVariants.{Cat, Echo, Grep, Head, Tee as Tee', Wc}
use Rattle.prog_parts.specs.Head.{has_wrong_option, head_files, line_count}
use Rattle.prog_parts.specs.Program.{program_of, file_words}
use Rattle.user_calls.specs.declared.calls.Call.{Call}
use Rattle.user_calls.specs.declared.calls.Call.TheVariants.{Fork, Exec, Exit, Wait, MakePipe, Read, Write, OpenFile, Close, Dup}
use Rattle.user_calls.specs.declared.calls.Reply.{Reply}
use Rattle.user_calls.specs.declared.calls.Reply.TheVariants.{Done, Refused}
use Rattle.user_progs.specs.State.{Filter, copying, heading, counting, searching, Source, standard, file, tee_opens, tee_reads, tee_writes, tee_gives, State, begins, echo_word, echo_space, opens, works, closes, tees, told, ended}
use Rattle.user_progs.specs.Turn.{Answer, yields, denies, strays, fd_in, bytes_in, done_in, Turn, turn, Step, reads, writes, finishes, fails, quits, turn_by, opens_next, opened_by, closed_by, after_source, begins_filter, begins_head, begins_grep, begins_program, first_step, work_step, filter_of, name_of, echo_next, echo_end, tee_opens_next, tee_opened, tee_got, tee_gives_next, tee_wrote, tee_turn}
use Rattle.tree_model.specs.Alone.{OwnFile, World, held, moved_on, closed, readable, may_write, can_open, after_read, after_file_write, after_done_write, after_write, after_call, done_if}
use Rattle.tree_model.specs.Residual.{Running, alone}
use Rattle.tree_model.specs.Begin.{begun, begun_words}
use Rattle.tree_model.specs.Answers.{kind_of, open_reply, read_reply, reply_of, resumed, replied, answer}
use Rattle.room_model.specs.Descriptors.{one_if_any, files_at_once, files_of_program, files_of_words}
use Rattle.law_runs.proofs.room.Measure.{IsPassed}

-- ---- by how many files more it may have open than before its call is answered

-- in this state, once it is answered
abbrev pub later_files : State → ℕ
later_files (begins program arguments) = files_at_once program arguments
later_files (echo_word later) = 0
later_files (echo_space later) = 0
later_files (opens filter name later) = 0
later_files (works work source) = 0
later_files (closes filter later) = one_if_any later
later_files (tees (tee_opens fds name later)) = length later
later_files (tees (tee_reads fds)) = 0
later_files (tees (tee_writes fds bytes)) = 0
later_files (tees (tee_gives fds at bytes)) = 0
later_files told = 0
later_files ended = 0

-- a close gives one back
abbrev pub closing : State → ℕ
closing (begins program arguments) = files_at_once program arguments
closing (echo_word later) = 0
closing (echo_space later) = 0
closing (opens filter name later) = 0
closing (works work source) = 0
closing (closes filter later) = 0
closing (tees (tee_opens fds name later)) = length later
closing (tees (tee_reads fds)) = 0
closing (tees (tee_writes fds bytes)) = 0
closing (tees (tee_gives fds at bytes)) = 0
closing told = 0
closing ended = 0

-- by its call
abbrev pub more_files : Call → State → ℕ
more_files Fork state = later_files state
more_files (Exec is_known) state = later_files state
more_files Exit state = later_files state
more_files Wait state = later_files state
more_files MakePipe state = later_files state
more_files (Read fd most) state = later_files state
more_files (Write fd bytes) state = later_files state
more_files (OpenFile name mode) state = 1 + later_files state
more_files (Close fd) state = closing state
more_files (Dup fd) state = later_files state

abbrev pub of_turn : Turn → ℕ
of_turn t = more_files t.call t.next

-- the files that it has open, and those
abbrev pub files_held : Running → ℕ
files_held run = length run.own + of_turn run.turn

-- ---- what it does with a reply

opens_few : (filter : Filter) (names : List Name) → of_turn (opens_next filter names) ≤ one_if_any names
opens_few filter [] = omega arith
opens_few filter (name ∷ later) = omega arith

source_few : (filter : Filter) (source : Source) → of_turn (after_source filter source) ≡ 0
source_few filter standard = refl
source_few filter (file fd name later) = refl

step_few : (step : Step) (filter : Filter) (source : Source) → of_turn (turn_by step filter source) ≡ 0
step_few (reads most work) filter source = refl
step_few (writes bytes work) filter source = refl
step_few finishes filter source = source_few filter source
step_few (fails message) filter source = refl
step_few quits filter source = refl

filter_few : (filter : Filter) (names : List Name) → of_turn (begins_filter filter names) ≤ one_if_any names
filter_few filter [] = omega (arith, step_few (first_step filter) filter standard)
filter_few filter (name ∷ later) = opens_few filter (name ∷ later)

echo_few : (arguments : List Bytes) → of_turn (echo_next arguments) ≡ 0
echo_few [] = refl
echo_few (argument ∷ later) = refl

space_few : (later : List Bytes) → of_turn (echo_end later) ≡ 0
space_few [] = refl
space_few (argument ∷ later) = refl

grep_few : (arguments : List Bytes) → of_turn (begins_grep arguments) ≤ one_if_any (file_words Grep arguments)
grep_few [] = omega arith
grep_few (pattern ∷ names) = filter_few (searching pattern) names

head_few : (b : Bool) (arguments : List Bytes) → of_turn (begins_head b arguments) ≤ one_if_any (head_files arguments)
head_few true arguments = omega arith
head_few false arguments = filter_few (heading (line_count arguments)) (head_files arguments)

tee_few : (fds : List ℕ) (names : List Name) → of_turn (tee_opens_next fds names) ≤ length names
tee_few fds [] = omega arith
tee_few fds (name ∷ later) = omega arith

program_few : (program : Program) (arguments : List Bytes) → of_turn (begins_program program arguments) ≤ files_at_once program arguments
program_few Cat arguments = filter_few copying arguments
program_few Echo arguments = omega (arith, echo_few arguments)
program_few Grep arguments = grep_few arguments
program_few Head arguments = head_few (has_wrong_option arguments) arguments
program_few Tee' arguments = tee_few [] arguments
program_few Wc arguments = filter_few counting arguments

opened_few : (filter : Filter) (name : Name) (later : List Name) (a : Answer ℕ) → of_turn (opened_by filter name later a) ≡ 0
opened_few filter name later (yields fd) = step_few (first_step filter) filter (file fd name later)
opened_few filter name later denies = refl
opened_few filter name later strays = refl

closed_few : (filter : Filter) (later : List Name) (a : Answer (Unit {0})) → of_turn (closed_by filter later a) ≤ one_if_any later
closed_few filter later (yields done) = opens_few filter later
closed_few filter later denies = omega arith
closed_few filter later strays = omega arith

tee_opened_few : (fds : List ℕ) (name : Name) (later : List Name) (a : Answer ℕ) → of_turn (tee_opened fds name later a) ≤ length later
tee_opened_few fds name later denies = omega arith
tee_opened_few fds name later strays = omega arith
tee_opened_few fds name later (yields fd) = by (nat_lt (length fds) 16) where
  by : (b : Bool) → of_turn (if b then tee_opens_next (fds ++ fd ∷ []) later else Rattle.user_progs.specs.Turn.tee_cannot_open name) ≤ length later
  by true = tee_few (fds ++ fd ∷ []) later
  by false = omega arith

tee_got_few : (fds : List ℕ) (a : Answer Bytes) → of_turn (tee_got fds a) ≡ 0
tee_got_few fds (yields []) = refl
tee_got_few fds (yields (byte ∷ bytes)) = refl
tee_got_few fds denies = refl
tee_got_few fds strays = refl

tee_gives_few : (fds : List ℕ) (at : ℕ) (bytes : Bytes) → of_turn (tee_gives_next fds at bytes) ≡ 0
tee_gives_few fds at bytes = by (nat_lt at (length fds)) where
  by : (b : Bool) → of_turn (if b then record { call = Write (Rattle.std.specs.Prelude.slice_index_or fds at 0) bytes; next = tees (tee_gives fds at bytes) } else Rattle.user_progs.specs.Turn.tee_waits fds) ≡ 0
  by true = refl
  by false = refl

tee_wrote_few : (fds : List ℕ) (at : ℕ) (bytes : Bytes) (a : Answer (Unit {0})) → of_turn (tee_wrote fds at bytes a) ≡ 0
tee_wrote_few fds at bytes (yields done) = tee_gives_few fds at bytes
tee_wrote_few fds at bytes denies = refl
tee_wrote_few fds at bytes strays = refl

pub turn_few : (state : State) (reply : Reply) → of_turn (turn state reply) ≤ later_files state
turn_few (begins program arguments) reply = program_few program arguments
turn_few (echo_word later) reply = omega (arith, space_few later)
turn_few (echo_space later) reply = omega (arith, echo_few later)
turn_few (opens filter name later) reply = omega (arith, opened_few filter name later (fd_in reply))
turn_few (works work source) reply = omega (arith, step_few (work_step work (name_of source) reply) (filter_of work) source)
turn_few (closes filter later) reply = closed_few filter later (done_in reply)
turn_few (tees (tee_opens fds name later)) reply = tee_opened_few fds name later (fd_in reply)
turn_few (tees (tee_reads fds)) reply = omega (arith, tee_got_few fds (bytes_in reply))
turn_few (tees (tee_writes fds bytes)) reply = omega (arith, tee_wrote_few fds 0 bytes (done_in reply))
turn_few (tees (tee_gives fds at bytes)) reply = omega (arith, tee_wrote_few fds (at + 1) bytes (done_in reply))
turn_few told reply = omega arith
turn_few ended reply = omega arith

-- a close that is refused, and one that isn't
refused_few : (state : State) → of_turn (turn state Refused) ≤ closing state
refused_few (begins program arguments) = turn_few (begins program arguments) Refused
refused_few (echo_word later) = turn_few (echo_word later) Refused
refused_few (echo_space later) = turn_few (echo_space later) Refused
refused_few (opens filter name later) = turn_few (opens filter name later) Refused
refused_few (works work source) = turn_few (works work source) Refused
refused_few (closes filter later) = omega arith
refused_few (tees (tee_opens fds name later)) = turn_few (tees (tee_opens fds name later)) Refused
refused_few (tees (tee_reads fds)) = turn_few (tees (tee_reads fds)) Refused
refused_few (tees (tee_writes fds bytes)) = turn_few (tees (tee_writes fds bytes)) Refused
refused_few (tees (tee_gives fds at bytes)) = turn_few (tees (tee_gives fds at bytes)) Refused
refused_few told = omega arith
refused_few ended = omega arith

one_at_most : (X : Type 0) (xs : List X) → one_if_any xs ≤ 1
one_at_most X [] = omega arith
one_at_most X (x ∷ xs) = omega arith

closing_few : (state : State) → later_files state ≤ 1 + closing state
closing_few (begins program arguments) = omega arith
closing_few (echo_word later) = omega arith
closing_few (echo_space later) = omega arith
closing_few (opens filter name later) = omega arith
closing_few (works work source) = omega arith
closing_few (closes filter later) = one_at_most Name later
closing_few (tees (tee_opens fds name later)) = omega arith
closing_few (tees (tee_reads fds)) = omega arith
closing_few (tees (tee_writes fds bytes)) = omega arith
closing_few (tees (tee_gives fds at bytes)) = omega arith
closing_few told = omega arith
closing_few ended = omega arith

-- ---- its files after a call

moved_length : (own : List OwnFile) (fd count : ℕ) → length (moved_on own fd count) ≡ length own
moved_length [] fd count = refl
moved_length (f ∷ later) fd count = by (f.fd == fd) (moved_length later fd count) where
  by : (b : Bool) → length (moved_on later fd count) ≡ length later → length (if b then record f { at = f.at + count } ∷ later else f ∷ moved_on later fd count) ≡ length (f ∷ later)
  by true ih = omega arith
  by false ih = omega (arith, ih)

closed_length : (own : List OwnFile) (fd : ℕ) → is_some (held own fd) ≡ true → length (closed own fd) + 1 ≡ length own
closed_length [] fd there = absurd (let z : ⊥ = cc in z)
closed_length (f ∷ later) fd there = by (f.fd == fd) there (closed_length later fd) where
  by : (b : Bool) → is_some (if b then Some f else held later fd) ≡ true → (is_some (held later fd) ≡ true → length (closed later fd) + 1 ≡ length later) → length (if b then later else f ∷ closed later fd) + 1 ≡ length (f ∷ later)
  by true there ih = omega arith
  by false there ih = omega (arith, ih there)

read_own : (fd : ℕ) (a : Answer Bytes) (world : World) → length (after_read fd a world).own ≡ length world.own
read_own zero (yields bytes) world = refl
read_own (suc fd) (yields bytes) world = moved_length world.own (suc fd) (length bytes)
read_own zero denies world = refl
read_own (suc fd) denies world = refl
read_own zero strays world = refl
read_own (suc fd) strays world = refl

file_write_own : (o : Option OwnFile) (bytes : Bytes) (world : World) → length (after_file_write o bytes world).own ≡ length world.own
file_write_own None bytes world = refl
file_write_own (Some f) bytes world = moved_length world.own f.fd (length bytes)

done_write_own : (fd : ℕ) (bytes : Bytes) (world : World) → length (after_done_write fd bytes world).own ≡ length world.own
done_write_own zero bytes world = refl
done_write_own (suc zero) bytes world = refl
done_write_own (suc (suc zero)) bytes world = refl
done_write_own (suc (suc (suc fd))) bytes world = file_write_own (held world.own (suc (suc (suc fd)))) bytes world

write_own : (fd : ℕ) (bytes : Bytes) (a : Answer (Unit {0})) (world : World) → length (after_write fd bytes a world).own ≡ length world.own
write_own fd bytes (yields done) world = done_write_own fd bytes world
write_own fd bytes denies world = refl
write_own fd bytes strays world = refl

-- ---- the files that it has open and those that it may have more, after its call

module _ (state : State) (world : World) where
  -- so many
  abbrev Fits : Call → Reply → Type 0
  Fits call reply = length (after_call call reply world).own + of_turn (turn state reply) ≤ length world.own + more_files call state

  same_own : (call : Call) (reply : Reply) → length (after_call call reply world).own ≡ length world.own → later_files state ≤ more_files call state → Fits call reply
  same_own call reply same few = omega (arith, same, few, turn_few state reply)

  open_fits : (name : Name) (mode : Rattle.user_calls.specs.declared.calls.Mode.Mode) (o : Option Bytes) → Fits (OpenFile name mode) (open_reply o world.own)
  open_fits name mode None = omega (arith, turn_few state Refused)
  open_fits name mode (Some bytes) = omega (arith, turn_few state (open_reply (Some bytes) world.own))

  close_fits : (fd : ℕ) (b : Bool) → is_some (held world.own fd) ≡ b → Fits (Close fd) (done_if b)
  close_fits fd true there = omega (arith, turn_few state Done, closing_few state, closed_length world.own fd there)
  close_fits fd false there = omega (arith, refused_few state)

  fits : (call : Call) → Fits call (reply_of call world)
  fits Fork = same_own Fork Refused refl (omega arith)
  fits (Exec is_known) = same_own (Exec is_known) Done refl (omega arith)
  fits Exit = same_own Exit Refused refl (omega arith)
  fits Wait = same_own Wait Refused refl (omega arith)
  fits MakePipe = same_own MakePipe Refused refl (omega arith)
  fits (Read fd most) = same_own (Read fd most) (read_reply most (readable fd world)) (read_own fd (bytes_in (read_reply most (readable fd world))) world) (omega arith)
  fits (Write fd bytes) = same_own (Write fd bytes) (done_if (may_write fd world)) (write_own fd bytes (done_in (done_if (may_write fd world))) world) (omega arith)
  fits (OpenFile name mode) = open_fits name mode (can_open name mode world.files)
  fits (Close fd) = close_fits fd (is_some (held world.own fd)) refl
  fits (Dup fd) = same_own (Dup fd) Refused refl (omega arith)

pub replied_few : (run : Running) (F : FileMap) → files_held (replied run (answer run F) F) ≤ files_held run
replied_few run F = fits run.turn.next (alone run F) run.turn.call

passed_same : (call : Call) (state : State) → IsPassed (kind_of call) → more_files call state ≡ later_files state
passed_same Fork state passed = absurd passed
passed_same (Exec is_known) state passed = absurd passed
passed_same Exit state passed = absurd passed
passed_same Wait state passed = absurd passed
passed_same MakePipe state passed = absurd passed
passed_same (Read zero most) state passed = refl
passed_same (Read (suc fd) most) state passed = absurd passed
passed_same (Write zero bytes) state passed = absurd passed
passed_same (Write (suc zero) bytes) state passed = refl
passed_same (Write (suc (suc fd)) bytes) state passed = absurd passed
passed_same (OpenFile name mode) state passed = absurd passed
passed_same (Close fd) state passed = absurd passed
passed_same (Dup fd) state passed = absurd passed

pub resumed_few : (run : Running) (reply : Reply) → IsPassed (kind_of run.turn.call) → files_held (resumed run reply) ≤ files_held run
resumed_few run reply passed = omega (arith, passed_same run.turn.call run.turn.next passed, turn_few run.turn.next reply)

-- ---- a simple command

-- as many as it is said to hold, where something is left of it
abbrev pub held_of : Option Running → ℕ
held_of None = 0
held_of (Some run) = files_held run

begun_by : (o : Option Program) (arguments : List Bytes) → held_of (begun o arguments) ≤ files_of_program o arguments
begun_by None arguments = omega arith
begun_by (Some program) arguments = omega arith

pub begun_few : (words : List Bytes) → held_of (begun_words words) ≤ files_of_words words
begun_few [] = omega arith
begun_few (word ∷ arguments) = begun_by (program_of word) arguments
