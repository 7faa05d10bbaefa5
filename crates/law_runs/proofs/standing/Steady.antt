-- What a program writes is never nothing, or it goes on alike whether the write is done or refused.
use Rattle.std.proofs.Common.{◌≡◌, ℕ, ◌+◌, ◌≤◌, nat_lt, Bool, true, false, List, [], ◌∷◌, ◌++◌, length, drop, refl, ap, arith}
use Rattle.std.specs.Prelude.{slice_index_or, if◌then◌else◌, codes, nat_le}
use Rattle.mem_files.specs.Name.{Name, Bytes}
use Rattle.grep_match.specs.Match.{matches}
use Rattle.prog_parts.specs.declared.program.Program.{Program}
use Rattle.prog_parts.specs.declared.program.Program.TheVariants.{Cat, Echo, Grep, Head, Tee as Tee', Wc}
use Rattle.prog_parts.specs.Grep.{tested}
use Rattle.prog_parts.specs.Head.{head_files, has_wrong_option, line_count}
use Rattle.user_calls.specs.declared.calls.Call.TheVariants.{Write}
use Rattle.user_calls.specs.declared.calls.Reply.{Reply}
use Rattle.user_calls.specs.declared.calls.Reply.TheVariants.{Done, Refused}
use Rattle.user_progs.specs.State.{Filter, copying, heading, counting, searching, Source, standard, file, Work, cat_reads, cat_writes, head_reads, head_writes, wc_reads, wc_writes, grep_reads, grep_writes, Tee, tee_opens, tee_reads, tee_writes, tee_gives, State, begins, echo_word, echo_space, opens, works, closes, tees, told, ended}
use Rattle.user_progs.specs.Turn.{Turn, Answer, yields, denies, strays, Step, reads, writes, finishes, fails, quits, bytes_in, fd_in, done_in, exits, tells, block, echo_next, echo_end, opens_next, after_source, turn_by, filter_of, name_of, name_of_program, work_step, first_step, cat_got, cat_wrote, head_goes_on, head_got, head_wrote, wc_got, grep_lines, grep_got, begins_filter, begins_head, begins_grep, tee_waits, tee_opens_next, tee_cannot_open, tee_opened, tee_got, tee_gives_next, tee_wrote, tee_turn, opened_by, closed_by, begins_program, turn}
use Rattle.process_model.specs.Own.{HoldsSome, IsSteady}

exits_steady : IsSteady exits
exits_steady = record { holds = tt; passes = λ e. refl }

tells_steady : (message : Bytes) → IsSteady (tells message)
tells_steady message = record { holds = tt; passes = λ e. refl }

either : (c : Bool) (t u : Turn) → IsSteady t → IsSteady u → IsSteady (if c then t else u)
either true t u h i = h
either false t u h i = i

-- ---- echo

echo_steady : (arguments : List Bytes) → IsSteady (echo_next arguments)
echo_steady [] = exits_steady
echo_steady (argument ∷ later) = record { holds = tt; passes = λ e. refl }

echo_end_steady : (arguments : List Bytes) → IsSteady (echo_end arguments)
echo_end_steady [] = record { holds = tt; passes = λ e. refl }
echo_end_steady (argument ∷ later) = record { holds = tt; passes = λ e. refl }

-- ---- programs that work on their inputs

abbrev StepSteady : Step → Type 0
StepSteady (reads most work) = Unit {0}
StepSteady (writes bytes work) = bytes ≡ [] → (name : Name) → work_step work name Refused ≡ work_step work name Done
StepSteady finishes = Unit {0}
StepSteady (fails message) = Unit {0}
StepSteady quits = Unit {0}

source_steady : (filter : Filter) (source : Source) → IsSteady (after_source filter source)
source_steady filter standard = exits_steady
source_steady filter (file fd name later) = record { holds = tt; passes = λ e. absurd (let z : ⊥ = cc in z) }

by_steady : (step : Step) (filter : Filter) (source : Source) → StepSteady step → IsSteady (turn_by step filter source)
by_steady (reads most work) filter source h = record { holds = tt; passes = λ e. absurd (let z : ⊥ = cc in z) }
by_steady (writes bytes work) filter source h = record {
  holds = tt;
  passes = λ e. let none : bytes ≡ [] = cc in ap (λ s. turn_by s (filter_of work) source) (h none (name_of source));
}
by_steady finishes filter source h = source_steady filter source
by_steady (fails message) filter source h = tells_steady message
by_steady quits filter source h = exits_steady

goes_on_steady : (lines left : ℕ) → StepSteady (head_goes_on lines left)
goes_on_steady lines Rattle.std.proofs.Common.zero = tt
goes_on_steady lines (Rattle.std.proofs.Common.suc left) = tt

not_nothing : (byte : ℕ) (bytes : Bytes) → byte ∷ bytes ≡ [] → ⊥
not_nothing byte bytes e = let z : ⊥ = cc in z

cat_got_steady : (got : Answer Bytes) → StepSteady (cat_got got)
cat_got_steady (yields []) = tt
cat_got_steady (yields (byte ∷ bytes)) = λ e. absurd (not_nothing byte bytes e)
cat_got_steady denies = tt
cat_got_steady strays = tt

cat_wrote_steady : (wrote : Answer (Unit {0})) → StepSteady (cat_wrote wrote)
cat_wrote_steady (yields done) = tt
cat_wrote_steady denies = tt
cat_wrote_steady strays = tt

head_got_steady : (lines left : ℕ) (got : Answer Bytes) → StepSteady (head_got lines left got)
head_got_steady lines left (yields []) = tt
head_got_steady lines Rattle.std.proofs.Common.zero (yields (byte ∷ bytes)) = tt
head_got_steady lines (Rattle.std.proofs.Common.suc left) (yields (byte ∷ bytes)) = λ e. absurd (not_nothing byte [] e)
head_got_steady lines left denies = tt
head_got_steady lines left strays = tt

head_wrote_steady : (lines left : ℕ) (wrote : Answer (Unit {0})) → StepSteady (head_wrote lines left wrote)
head_wrote_steady lines left (yields done) = goes_on_steady lines left
head_wrote_steady lines left denies = tt
head_wrote_steady lines left strays = tt

wc_got_steady : (lines words count : ℕ) (inside : Bool) (name : Name) (got : Answer Bytes) → StepSteady (wc_got lines words count inside name got)
wc_got_steady lines words count inside name (yields []) = λ e name. refl
wc_got_steady lines words count inside name (yields (byte ∷ bytes)) = tt
wc_got_steady lines words count inside name denies = tt
wc_got_steady lines words count inside name strays = tt

step_either : (c : Bool) (s t : Step) → StepSteady s → StepSteady t → StepSteady (if c then s else t)
step_either true s t h i = h
step_either false s t h i = i

grep_steady : (pattern : Bytes) (lines : List Bytes) (buffer : Bytes) → StepSteady (grep_lines pattern lines buffer)
grep_steady pattern [] buffer = step_either (nat_le 1023 (length buffer)) finishes (reads (Rattle.std.specs.Prelude.◌-◌ 1023 (length buffer)) (grep_reads pattern buffer)) tt tt
grep_steady pattern (line ∷ lines) buffer =
    step_either (matches pattern line) (writes (block (line ++ 10 ∷ [])) (grep_writes pattern (drop (length line + 1) buffer))) (grep_lines pattern lines (drop (length line + 1) buffer))
    (λ e name. refl) (grep_steady pattern lines (drop (length line + 1) buffer))

grep_got_steady : (pattern kept : Bytes) (got : Answer Bytes) → StepSteady (grep_got pattern kept got)
grep_got_steady pattern kept (yields []) = tt
grep_got_steady pattern kept (yields (byte ∷ bytes)) = grep_steady pattern (tested (block (kept ++ byte ∷ bytes))) (block (kept ++ byte ∷ bytes))
grep_got_steady pattern kept denies = tt
grep_got_steady pattern kept strays = tt

work_steady : (work : Work) (name : Name) (reply : Reply) → StepSteady (work_step work name reply)
work_steady cat_reads name reply = cat_got_steady (bytes_in reply)
work_steady cat_writes name reply = cat_wrote_steady (done_in reply)
work_steady (head_reads lines left) name reply = head_got_steady lines left (bytes_in reply)
work_steady (head_writes lines left) name reply = head_wrote_steady lines left (done_in reply)
work_steady (wc_reads lines words count inside) name reply = wc_got_steady lines words count inside name (bytes_in reply)
work_steady wc_writes name reply = tt
work_steady (grep_reads pattern kept) name reply = grep_got_steady pattern kept (bytes_in reply)
work_steady (grep_writes pattern rest) name reply = grep_steady pattern (tested rest) rest

first_steady : (filter : Filter) → StepSteady (first_step filter)
first_steady copying = tt
first_steady (heading lines) = goes_on_steady lines lines
first_steady counting = tt
first_steady (searching pattern) = tt

opens_next_steady : (filter : Filter) (names : List Name) → IsSteady (opens_next filter names)
opens_next_steady filter [] = exits_steady
opens_next_steady filter (name ∷ later) = record { holds = tt; passes = λ e. absurd (let z : ⊥ = cc in z) }

opened_steady : (filter : Filter) (name : Name) (later : List Name) (got : Answer ℕ) → IsSteady (opened_by filter name later got)
opened_steady filter name later (yields fd) = by_steady (first_step filter) filter (file fd name later) (first_steady filter)
opened_steady filter name later denies = tells_steady (name_of_program filter ++ (codes ": cannot open " ++ (name ++ 10 ∷ [])))
opened_steady filter name later strays = exits_steady

closed_steady : (filter : Filter) (later : List Name) (got : Answer (Unit {0})) → IsSteady (closed_by filter later got)
closed_steady filter later (yields done) = opens_next_steady filter later
closed_steady filter later denies = exits_steady
closed_steady filter later strays = exits_steady

-- ---- tee

tee_waits_steady : (fds : List ℕ) → IsSteady (tee_waits fds)
tee_waits_steady fds = record { holds = tt; passes = λ e. absurd (let z : ⊥ = cc in z) }

tee_next_steady : (fds : List ℕ) (names : List Name) → IsSteady (tee_opens_next fds names)
tee_next_steady fds [] = tee_waits_steady fds
tee_next_steady fds (name ∷ later) = record { holds = tt; passes = λ e. absurd (let z : ⊥ = cc in z) }

tee_opened_steady : (fds : List ℕ) (name : Name) (later : List Name) (got : Answer ℕ) → IsSteady (tee_opened fds name later got)
tee_opened_steady fds name later denies = tells_steady (codes "tee" ++ (codes ": cannot open " ++ (name ++ 10 ∷ [])))
tee_opened_steady fds name later strays = exits_steady
tee_opened_steady fds name later (yields fd) =
    either (nat_lt (length fds) 16) (tee_opens_next (fds ++ fd ∷ []) later) (tee_cannot_open name) (tee_next_steady (fds ++ fd ∷ []) later) (tells_steady (codes "tee" ++ (codes ": cannot open " ++ (name ++ 10 ∷ []))))

tee_got_steady : (fds : List ℕ) (got : Answer Bytes) → IsSteady (tee_got fds got)
tee_got_steady fds (yields []) = exits_steady
tee_got_steady fds (yields (byte ∷ bytes)) = record { holds = omega arith; passes = λ e. let z : byte ∷ bytes ≡ [] = cc in absurd (not_nothing byte bytes z) }
tee_got_steady fds denies = tells_steady (codes "tee: read error\n")
tee_got_steady fds strays = exits_steady

tee_gives_steady : (fds : List ℕ) (at : ℕ) (bytes : Bytes) → 1 ≤ length bytes → IsSteady (tee_gives_next fds at bytes)
tee_gives_steady fds at bytes some =
    either (nat_lt at (length fds)) (record { call = Write (slice_index_or fds at 0) bytes; next = tees (tee_gives fds at bytes) }) (tee_waits fds)
    (record { holds = some; passes = λ e. let z : bytes ≡ [] = cc in absurd (omega (arith, some, ap (length {A = ℕ}) z)) }) (tee_waits_steady fds)

tee_wrote_steady : (fds : List ℕ) (at : ℕ) (bytes : Bytes) (wrote : Answer (Unit {0})) → 1 ≤ length bytes → IsSteady (tee_wrote fds at bytes wrote)
tee_wrote_steady fds at bytes (yields done) some = tee_gives_steady fds at bytes some
tee_wrote_steady fds at bytes denies some = tells_steady (codes "tee: write error\n")
tee_wrote_steady fds at bytes strays some = exits_steady

tee_steady : (tee : Tee) (reply : Reply) → HoldsSome (tees tee) → IsSteady (tee_turn tee reply)
tee_steady (tee_opens fds name later) reply h = tee_opened_steady fds name later (fd_in reply)
tee_steady (tee_reads fds) reply h = tee_got_steady fds (bytes_in reply)
tee_steady (tee_writes fds bytes) reply h = tee_wrote_steady fds 0 bytes (done_in reply) h
tee_steady (tee_gives fds at bytes) reply h = tee_wrote_steady fds (at + 1) bytes (done_in reply) h

-- ---- every program

filter_steady : (filter : Filter) (names : List Name) → IsSteady (begins_filter filter names)
filter_steady filter [] = by_steady (first_step filter) filter standard (first_steady filter)
filter_steady filter (name ∷ later) = opens_next_steady filter (name ∷ later)

head_steady : (wrong : Bool) (arguments : List Bytes) → IsSteady (begins_head wrong arguments)
head_steady true arguments = tells_steady (codes "usage: head [-N] [file ...]\n")
head_steady false arguments = filter_steady (heading (line_count arguments)) (head_files arguments)

begins_grep_steady : (arguments : List Bytes) → IsSteady (begins_grep arguments)
begins_grep_steady [] = tells_steady (codes "usage: grep pattern [file ...]\n")
begins_grep_steady (pattern ∷ names) = filter_steady (searching pattern) names

program_steady : (program : Program) (arguments : List Bytes) → IsSteady (begins_program program arguments)
program_steady Cat arguments = filter_steady copying arguments
program_steady Echo arguments = echo_steady arguments
program_steady Grep arguments = begins_grep_steady arguments
program_steady Head arguments = head_steady (has_wrong_option arguments) arguments
program_steady Tee' arguments = tee_next_steady [] arguments
program_steady Wc arguments = filter_steady counting arguments

pub steady_next : (state : State) (reply : Reply) → HoldsSome state → IsSteady (turn state reply)
steady_next (begins program arguments) reply h = program_steady program arguments
steady_next (echo_word later) reply h = echo_end_steady later
steady_next (echo_space later) reply h = echo_steady later
steady_next (opens filter name later) reply h = opened_steady filter name later (fd_in reply)
steady_next (works work source) reply h = by_steady (work_step work (name_of source) reply) (filter_of work) source (work_steady work (name_of source) reply)
steady_next (closes filter later) reply h = closed_steady filter later (done_in reply)
steady_next (tees tee) reply h = tee_steady tee reply h
steady_next told reply h = exits_steady
steady_next ended reply h = exits_steady
