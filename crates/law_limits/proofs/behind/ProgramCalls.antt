-- No program forks, waits, makes a pipe or duplicates a descriptor, whatever it is answered.
use Rattle.std.proofs.Common.{◌≡◌, ◌⊎◌, inl, inr, ℕ, ◌+◌, Bool, true, false, List, [], ◌∷◌, ◌++◌, length, refl}
use Rattle.std.specs.Prelude.{if◌then◌else◌, nat_lt, slice_index_or}
use Rattle.mem_files.specs.Name.{Name, Bytes}
use Rattle.prog_parts.specs.declared.program.Program.{Program}
use Rattle.prog_parts.specs.declared.program.Program.TheVariants.{Cat, Echo, Grep, Head, Tee as Tee', Wc}
use Rattle.prog_parts.specs.Head.{has_wrong_option, head_files, line_count}
use Rattle.user_calls.specs.declared.calls.Call.{Call}
use Rattle.user_calls.specs.declared.calls.Call.TheVariants.{Fork, Exec, Exit, Wait, MakePipe, Read, Write, OpenFile, Close, Dup}
use Rattle.user_calls.specs.declared.calls.Reply.{Reply}
use Rattle.user_progs.specs.State.{Filter, copying, heading, counting, searching, Source, standard, file, tee_opens, tee_reads, tee_writes, tee_gives, State, begins, echo_word, echo_space, opens, works, closes, tees, told, ended}
use Rattle.user_progs.specs.Turn.{Answer, yields, denies, strays, fd_in, bytes_in, done_in, Turn, turn, Step, reads, writes, finishes, fails, quits, turn_by, opens_next, opened_by, closed_by, after_source, begins_filter, begins_head, begins_grep, begins_program, first_step, work_step, filter_of, name_of, echo_next, echo_end, tee_opens_next, tee_opened, tee_got, tee_gives_next, tee_wrote, tee_waits, tee_cannot_open}
use Rattle.law_limits.proofs.behind.Fits.{IsQuiet}

abbrev pub IsOwn : Call → Type 0
IsOwn Fork = ⊥
IsOwn (Exec found) = ⊥
IsOwn Exit = Unit {0}
IsOwn Wait = ⊥
IsOwn MakePipe = ⊥
IsOwn (Read fd most) = Unit {0}
IsOwn (Write fd bytes) = Unit {0}
IsOwn (OpenFile name mode) = Unit {0}
IsOwn (Close fd) = Unit {0}
IsOwn (Dup fd) = ⊥

-- so it is quiet, or it ends the process
pub own_quiet : (call : Call) → IsOwn call → IsQuiet call ⊎ (call ≡ Exit)
own_quiet Fork own = absurd own
own_quiet (Exec found) own = absurd own
own_quiet Exit own = inr refl
own_quiet Wait own = absurd own
own_quiet MakePipe own = absurd own
own_quiet (Read fd most) own = inl tt
own_quiet (Write fd bytes) own = inl tt
own_quiet (OpenFile name mode) own = inl tt
own_quiet (Close fd) own = inl tt
own_quiet (Dup fd) own = absurd own

abbrev Own : Turn → Type 0
Own t = IsOwn t.call

opens_own : (filter : Filter) (names : List Name) → Own (opens_next filter names)
opens_own filter [] = tt
opens_own filter (name ∷ later) = tt

source_own : (filter : Filter) (source : Source) → Own (after_source filter source)
source_own filter standard = tt
source_own filter (file fd name later) = tt

step_own : (step : Step) (filter : Filter) (source : Source) → Own (turn_by step filter source)
step_own (reads most work) filter source = tt
step_own (writes bytes work) filter source = tt
step_own finishes filter source = source_own filter source
step_own (fails message) filter source = tt
step_own quits filter source = tt

filter_own : (filter : Filter) (names : List Name) → Own (begins_filter filter names)
filter_own filter [] = step_own (first_step filter) filter standard
filter_own filter (name ∷ later) = opens_own filter (name ∷ later)

echo_own : (arguments : List Bytes) → Own (echo_next arguments)
echo_own [] = tt
echo_own (argument ∷ later) = tt

space_own : (later : List Bytes) → Own (echo_end later)
space_own [] = tt
space_own (argument ∷ later) = tt

grep_own : (arguments : List Bytes) → Own (begins_grep arguments)
grep_own [] = tt
grep_own (pattern ∷ names) = filter_own (searching pattern) names

head_own : (b : Bool) (arguments : List Bytes) → Own (begins_head b arguments)
head_own true arguments = tt
head_own false arguments = filter_own (heading (line_count arguments)) (head_files arguments)

tee_own : (fds : List ℕ) (names : List Name) → Own (tee_opens_next fds names)
tee_own fds [] = tt
tee_own fds (name ∷ later) = tt

program_own : (program : Program) (arguments : List Bytes) → Own (begins_program program arguments)
program_own Cat arguments = filter_own copying arguments
program_own Echo arguments = echo_own arguments
program_own Grep arguments = grep_own arguments
program_own Head arguments = head_own (has_wrong_option arguments) arguments
program_own Tee' arguments = tee_own [] arguments
program_own Wc arguments = filter_own counting arguments

opened_own : (filter : Filter) (name : Name) (later : List Name) (a : Answer ℕ) → Own (opened_by filter name later a)
opened_own filter name later (yields fd) = step_own (first_step filter) filter (file fd name later)
opened_own filter name later denies = tt
opened_own filter name later strays = tt

closed_own : (filter : Filter) (later : List Name) (a : Answer (Unit {0})) → Own (closed_by filter later a)
closed_own filter later (yields done) = opens_own filter later
closed_own filter later denies = tt
closed_own filter later strays = tt

tee_opened_own : (fds : List ℕ) (name : Name) (later : List Name) (a : Answer ℕ) → Own (tee_opened fds name later a)
tee_opened_own fds name later denies = tt
tee_opened_own fds name later strays = tt
tee_opened_own fds name later (yields fd) = by (nat_lt (length fds) 16)
  where
    by : (b : Bool) → Own (if b then tee_opens_next (fds ++ fd ∷ []) later else tee_cannot_open name)
    by true = tee_own (fds ++ fd ∷ []) later
    by false = tt

tee_got_own : (fds : List ℕ) (a : Answer Bytes) → Own (tee_got fds a)
tee_got_own fds (yields []) = tt
tee_got_own fds (yields (byte ∷ bytes)) = tt
tee_got_own fds denies = tt
tee_got_own fds strays = tt

tee_gives_own : (fds : List ℕ) (at : ℕ) (bytes : Bytes) → Own (tee_gives_next fds at bytes)
tee_gives_own fds at bytes = by (nat_lt at (length fds))
  where
    by : (b : Bool) → Own (if b then record { call = Write (slice_index_or fds at 0) bytes; next = tees (tee_gives fds at bytes) } else tee_waits fds)
    by true = tt
    by false = tt

tee_wrote_own : (fds : List ℕ) (at : ℕ) (bytes : Bytes) (a : Answer (Unit {0})) → Own (tee_wrote fds at bytes a)
tee_wrote_own fds at bytes (yields done) = tee_gives_own fds at bytes
tee_wrote_own fds at bytes denies = tt
tee_wrote_own fds at bytes strays = tt

pub program_calls : (state : State) (reply : Reply) → IsOwn (turn state reply).call
program_calls (begins program arguments) reply = program_own program arguments
program_calls (echo_word later) reply = space_own later
program_calls (echo_space later) reply = echo_own later
program_calls (opens filter name later) reply = opened_own filter name later (fd_in reply)
program_calls (works work source) reply = step_own (work_step work (name_of source) reply) (filter_of work) source
program_calls (closes filter later) reply = closed_own filter later (done_in reply)
program_calls (tees (tee_opens fds name later)) reply = tee_opened_own fds name later (fd_in reply)
program_calls (tees (tee_reads fds)) reply = tee_got_own fds (bytes_in reply)
program_calls (tees (tee_writes fds bytes)) reply = tee_wrote_own fds 0 bytes (done_in reply)
program_calls (tees (tee_gives fds at bytes)) reply = tee_wrote_own fds (at + 1) bytes (done_in reply)
program_calls told reply = tt
program_calls ended reply = tt
