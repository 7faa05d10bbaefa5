-- What a program was given is less that it may still read.
use Rattle.std.proofs.Common.{◌≡◌, ℕ, ◌+◌, ◌≤◌, nat_lt, Bool, true, false, List, [], ◌∷◌, ◌++◌, length, Some, None, refl, ap, arith}
use Rattle.std.specs.Prelude.{if◌then◌else◌, slice_index_or}
use Rattle.mem_files.specs.Name.{Name, Bytes}
use Rattle.prog_parts.specs.declared.program.Program.{Program}
use Rattle.prog_parts.specs.declared.program.Program.TheVariants.{Cat, Echo, Grep, Head, Tee as Tee', Wc}
use Rattle.prog_parts.specs.Head.{head_files, has_wrong_option, line_count}
use Rattle.prog_parts.specs.Words.{files_read}
use Rattle.user_calls.specs.declared.calls.Call.TheVariants.{Write}
use Rattle.user_calls.specs.declared.calls.Reply.{Reply}
use Rattle.user_progs.specs.State.{Filter, copying, heading, counting, searching, Source, standard, file as file_at, Work, cat_reads, Tee, tee_opens, tee_reads, tee_writes, tee_gives, State, begins, echo_word, echo_space, opens, works, closes, tees, told, ended}
use Rattle.user_progs.specs.Turn.{Turn, Answer, yields, denies, strays, Step, reads, writes, finishes, fails, quits, bytes_in, fd_in, done_in, turn, turn_by, first_step, work_step, filter_of, name_of, opens_next, opened_by, closed_by, begins_filter, begins_head, begins_program, echo_next, echo_end, tee_waits, tee_opens_next, tee_cannot_open, tee_opened, tee_got, tee_gives_next, tee_wrote, tee_turn}
use Rattle.tree_model.specs.Ahead.{still_uses}
use Rattle.tree_model.specs.Exits.{bytes_told}
use Rattle.tree_model.specs.FilesAhead.{Sizes, all_sizes}
use Rattle.tree_model.specs.Bound.{input_ahead}
use Rattle.law_trees.proofs.programs.Shrinking.{uses_shrink}
use Rattle.process_model.specs.Seen.{Fds, fd_at, View}
use Rattle.law_limits.proofs.sizes.Doings.{IsAsked, fd_source, name_opened, ahead_by, of_files, reads_left}
use Rattle.law_limits.proofs.sizes.More.{input_more}

module _ (L : Sizes) (V W : View) (N M : ℕ → ℕ) (d e : Fds) where
  -- a reply in this state, after which the descriptors are e
  pub record Answers (state : State) (reply : Reply) : Type 0 where
    pub zeroth : ahead_by L W M (fd_at e 0) ≤ ahead_by L V N (fd_at d 0)
    pub nothing : fd_source state ≡ None → bytes_told (bytes_in reply) ≡ 0
    pub source : (fd : ℕ) → fd_source state ≡ Some fd → ahead_by L W M (fd_at e fd) + bytes_told (bytes_in reply) ≤ ahead_by L V N (fd_at d fd)
    pub opens : (name : Name) (fd : ℕ) → name_opened state ≡ Some name → fd_in reply ≡ yields fd → ahead_by L W M (fd_at e fd) ≤ L name

  abbrev now : State → ℕ
  now state = reads_left L W M e state

  abbrev was : State → ℕ
  was state = reads_left L V N d state

  -- it goes on with its input, of which so many were read
  step_reads : (step : Step) (filter : Filter) (source : Source) (k n : ℕ) → now (works cat_reads source) + k ≤ n → now (turn_by step filter source).next + k ≤ n
  step_reads (reads most work) filter source k n few = few
  step_reads (writes bytes work) filter source k n few = few
  step_reads finishes filter standard k n few = omega (arith, few)
  step_reads finishes filter (file_at fd name later) k n few = omega (arith, few)
  step_reads (fails message) filter source k n few = omega (arith, few)
  step_reads quits filter source k n few = omega (arith, few)

  next_reads : (filter : Filter) (names : List Name) → now (opens_next filter names).next ≤ all_sizes names L
  next_reads filter [] = omega arith
  next_reads filter (name ∷ later) = omega arith

  -- ---- where it begins

  abbrev files_now : State → ℕ
  files_now state = of_files L W M e state

  step_files : (step : Step) (filter : Filter) → files_now (turn_by step filter standard).next ≤ 0
  step_files (reads most work) filter = omega arith
  step_files (writes bytes work) filter = omega arith
  step_files finishes filter = omega arith
  step_files (fails message) filter = omega arith
  step_files quits filter = omega arith

  filter_files : (filter : Filter) (names : List Name) → files_now (begins_filter filter names).next ≤ all_sizes names L
  filter_files filter [] = step_files (first_step filter) filter
  filter_files filter (name ∷ later) = omega arith

  headed_files : (wrong : Bool) (arguments : List Bytes) → files_now (begins_head wrong arguments).next ≤ all_sizes (head_files arguments) L
  headed_files true arguments = omega arith
  headed_files false arguments = filter_files (heading (line_count arguments)) (head_files arguments)

  echo_none : (arguments : List Bytes) → now (echo_next arguments).next ≤ 0
  echo_none [] = omega arith
  echo_none (argument ∷ later) = omega arith

  echo_end_none : (later : List Bytes) → now (echo_end later).next ≤ 0
  echo_end_none [] = omega arith
  echo_end_none (argument ∷ later) = omega arith

  tee_next_files : (fds : List ℕ) (names : List Name) → files_now (tee_opens_next fds names).next ≤ 0
  tee_next_files fds [] = omega arith
  tee_next_files fds (name ∷ later) = omega arith

  program_files : (which : Program) (arguments : List Bytes) → files_now (begins_program which arguments).next ≤ all_sizes (files_read which arguments) L
  program_files Cat arguments = filter_files copying arguments
  program_files Echo arguments = omega (arith, echo_none arguments)
  program_files Grep [] = omega arith
  program_files Grep (pattern ∷ names) = filter_files (searching pattern) names
  program_files Head arguments = headed_files (has_wrong_option arguments) arguments
  program_files Tee' arguments = omega (arith, tee_next_files [] arguments)
  program_files Wc arguments = filter_files counting arguments

  -- ---- tee

  tee_next_reads : (fds : List ℕ) (names : List Name) → now (tee_opens_next fds names).next ≤ ahead_by L W M (fd_at e 0)
  tee_next_reads fds [] = omega arith
  tee_next_reads fds (name ∷ later) = omega arith

  tee_gives_reads : (fds : List ℕ) (at : ℕ) (bytes : Bytes) → now (tee_gives_next fds at bytes).next ≤ ahead_by L W M (fd_at e 0)
  tee_gives_reads fds at bytes = by (nat_lt at (length fds))
    where
      by : (more : Bool) → now (if more then record { call = Write (slice_index_or fds at 0) bytes; next = tees (tee_gives fds at bytes) } else tee_waits fds).next ≤ ahead_by L W M (fd_at e 0)
      by true = omega arith
      by false = omega arith

  tee_opened_reads : (fds : List ℕ) (name : Name) (later : List Name) (answer : Answer ℕ) → now (tee_opened fds name later answer).next ≤ ahead_by L W M (fd_at e 0)
  tee_opened_reads fds name later denies = omega arith
  tee_opened_reads fds name later strays = omega arith
  tee_opened_reads fds name later (yields fd) = by (nat_lt (length fds) 16)
    where
      by : (room : Bool) → now (if room then tee_opens_next (fds ++ fd ∷ []) later else tee_cannot_open name).next ≤ ahead_by L W M (fd_at e 0)
      by true = tee_next_reads (fds ++ fd ∷ []) later
      by false = omega arith

  tee_got_reads : (fds : List ℕ) (answer : Answer Bytes) → now (tee_got fds answer).next ≤ ahead_by L W M (fd_at e 0)
  tee_got_reads fds (yields []) = omega arith
  tee_got_reads fds (yields (byte ∷ bytes)) = omega arith
  tee_got_reads fds denies = omega arith
  tee_got_reads fds strays = omega arith

  tee_wrote_reads : (fds : List ℕ) (at : ℕ) (bytes : Bytes) (answer : Answer (Unit {0})) → now (tee_wrote fds at bytes answer).next ≤ ahead_by L W M (fd_at e 0)
  tee_wrote_reads fds at bytes (yields done) = tee_gives_reads fds at bytes
  tee_wrote_reads fds at bytes denies = omega arith
  tee_wrote_reads fds at bytes strays = omega arith

  tee_reads_on : (tee : Tee) (reply : Reply) → now (tee_turn tee reply).next ≤ ahead_by L W M (fd_at e 0)
  tee_reads_on (tee_opens fds name later) reply = tee_opened_reads fds name later (fd_in reply)
  tee_reads_on (tee_reads fds) reply = tee_got_reads fds (bytes_in reply)
  tee_reads_on (tee_writes fds bytes) reply = tee_wrote_reads fds 0 bytes (done_in reply)
  tee_reads_on (tee_gives fds at bytes) reply = tee_wrote_reads fds (at + 1) bytes (done_in reply)

  -- ---- any state

  uses_less : (state : State) (reply : Reply) → input_ahead (still_uses (turn state reply).next) (ahead_by L W M (fd_at e 0)) ≤ input_ahead (still_uses state) (ahead_by L W M (fd_at e 0))
  uses_less state reply = by (still_uses state) refl
    where
      n : ℕ
      n = ahead_by L W M (fd_at e 0)

      any : (uses : Bool) → input_ahead uses n ≤ n
      any true = omega arith
      any false = omega arith

      by : (uses : Bool) → still_uses state ≡ uses → input_ahead (still_uses (turn state reply).next) n ≤ input_ahead uses n
      by true is = any (still_uses (turn state reply).next)
      by false is = omega (arith, ap (λ b. input_ahead b n) (uses_shrink state reply is))

  opened_reads : (filter : Filter) (name : Name) (later : List Name) (answer : Answer ℕ) → ((fd : ℕ) → answer ≡ yields fd → ahead_by L W M (fd_at e fd) ≤ L name) → now (opened_by filter name later answer).next ≤ L name + all_sizes later L
  opened_reads filter name later (yields fd) new = omega (arith, step_reads (first_step filter) filter (file_at fd name later) 0 (L name + all_sizes later L) (omega (arith, new fd refl)))
  opened_reads filter name later denies new = omega arith
  opened_reads filter name later strays new = omega arith

  closed_reads : (filter : Filter) (later : List Name) (answer : Answer (Unit {0})) → now (closed_by filter later answer).next ≤ all_sizes later L
  closed_reads filter later (yields done) = next_reads filter later
  closed_reads filter later denies = omega arith
  closed_reads filter later strays = omega arith

  work_reads : (work : Work) (source : Source) (reply : Reply) → Answers (works work source) reply → now (turn (works work source) reply).next + bytes_told (bytes_in reply) ≤ was (works work source)
  work_reads work standard reply a = step_reads (work_step work [] reply) (filter_of work) standard _ _ (omega (arith, a.source 0 refl))
  work_reads work (file_at fd name later) reply a = step_reads (work_step work name reply) (filter_of work) (file_at fd name later) _ _ (omega (arith, a.source fd refl))

  pub turn_reads : (state : State) (reply : Reply) → Answers state reply → now (turn state reply).next + bytes_told (bytes_in reply) ≤ was state
  turn_reads (begins which arguments) reply a = omega (arith, program_files which arguments, a.nothing refl, uses_less (begins which arguments) reply, input_more (still_uses (begins which arguments)) _ _ a.zeroth)
  turn_reads (echo_word later) reply a = omega (arith, echo_end_none later, a.nothing refl)
  turn_reads (echo_space later) reply a = omega (arith, echo_none later, a.nothing refl)
  turn_reads (opens filter name later) reply a = omega (arith, opened_reads filter name later (fd_in reply) (λ fd is. a.opens name fd refl is), a.nothing refl)
  turn_reads (works work source) reply a = work_reads work source reply a
  turn_reads (closes filter later) reply a = omega (arith, closed_reads filter later (done_in reply), a.nothing refl)
  turn_reads (tees tee) reply a = omega (arith, tee_reads_on tee reply, a.source 0 refl)
  turn_reads told reply a = omega (arith, a.nothing refl)
  turn_reads ended reply a = omega (arith, a.nothing refl)

-- ---- what a call is of, by the state that waits for it

abbrev Asked : Turn → Type 0
Asked t = IsAsked t.call t.next

step_asked : (step : Step) (filter : Filter) (source : Source) → Asked (turn_by step filter source)
step_asked (reads most work) filter standard = refl
step_asked (reads most work) filter (file_at at name later) = refl
step_asked (writes bytes work) filter source = tt
step_asked finishes filter standard = tt
step_asked finishes filter (file_at fd name later) = tt
step_asked (fails message) filter source = tt
step_asked quits filter source = tt

next_asked : (filter : Filter) (names : List Name) → Asked (opens_next filter names)
next_asked filter [] = tt
next_asked filter (name ∷ later) = refl

filter_asked : (filter : Filter) (names : List Name) → Asked (begins_filter filter names)
filter_asked filter [] = step_asked (first_step filter) filter standard
filter_asked filter (name ∷ later) = refl

headed_asked : (wrong : Bool) (arguments : List Bytes) → Asked (begins_head wrong arguments)
headed_asked true arguments = tt
headed_asked false arguments = filter_asked (heading (line_count arguments)) (head_files arguments)

echo_asked : (arguments : List Bytes) → Asked (echo_next arguments)
echo_asked [] = tt
echo_asked (argument ∷ later) = tt

echo_end_asked : (later : List Bytes) → Asked (echo_end later)
echo_end_asked [] = tt
echo_end_asked (argument ∷ later) = tt

tee_next_asked : (fds : List ℕ) (names : List Name) → Asked (tee_opens_next fds names)
tee_next_asked fds [] = refl
tee_next_asked fds (name ∷ later) = tt

program_asked : (which : Program) (arguments : List Bytes) → Asked (begins_program which arguments)
program_asked Cat arguments = filter_asked copying arguments
program_asked Echo arguments = echo_asked arguments
program_asked Grep [] = tt
program_asked Grep (pattern ∷ names) = filter_asked (searching pattern) names
program_asked Head arguments = headed_asked (has_wrong_option arguments) arguments
program_asked Tee' arguments = tee_next_asked [] arguments
program_asked Wc arguments = filter_asked counting arguments

tee_gives_asked : (fds : List ℕ) (at : ℕ) (bytes : Bytes) → Asked (tee_gives_next fds at bytes)
tee_gives_asked fds at bytes = by (nat_lt at (length fds))
  where
    by : (more : Bool) → Asked (if more then record { call = Write (slice_index_or fds at 0) bytes; next = tees (tee_gives fds at bytes) } else tee_waits fds)
    by true = tt
    by false = refl

tee_opened_asked : (fds : List ℕ) (name : Name) (later : List Name) (answer : Answer ℕ) → Asked (tee_opened fds name later answer)
tee_opened_asked fds name later denies = tt
tee_opened_asked fds name later strays = tt
tee_opened_asked fds name later (yields fd) = by (nat_lt (length fds) 16)
  where
    by : (room : Bool) → Asked (if room then tee_opens_next (fds ++ fd ∷ []) later else tee_cannot_open name)
    by true = tee_next_asked (fds ++ fd ∷ []) later
    by false = tt

tee_got_asked : (fds : List ℕ) (answer : Answer Bytes) → Asked (tee_got fds answer)
tee_got_asked fds (yields []) = tt
tee_got_asked fds (yields (byte ∷ bytes)) = tt
tee_got_asked fds denies = tt
tee_got_asked fds strays = tt

tee_wrote_asked : (fds : List ℕ) (at : ℕ) (bytes : Bytes) (answer : Answer (Unit {0})) → Asked (tee_wrote fds at bytes answer)
tee_wrote_asked fds at bytes (yields done) = tee_gives_asked fds at bytes
tee_wrote_asked fds at bytes denies = tt
tee_wrote_asked fds at bytes strays = tt

tee_asked : (tee : Tee) (reply : Reply) → Asked (tee_turn tee reply)
tee_asked (tee_opens fds name later) reply = tee_opened_asked fds name later (fd_in reply)
tee_asked (tee_reads fds) reply = tee_got_asked fds (bytes_in reply)
tee_asked (tee_writes fds bytes) reply = tee_wrote_asked fds 0 bytes (done_in reply)
tee_asked (tee_gives fds at bytes) reply = tee_wrote_asked fds (at + 1) bytes (done_in reply)

opened_asked : (filter : Filter) (name : Name) (later : List Name) (answer : Answer ℕ) → Asked (opened_by filter name later answer)
opened_asked filter name later (yields fd) = step_asked (first_step filter) filter (file_at fd name later)
opened_asked filter name later denies = tt
opened_asked filter name later strays = tt

closed_asked : (filter : Filter) (later : List Name) (answer : Answer (Unit {0})) → Asked (closed_by filter later answer)
closed_asked filter later (yields done) = next_asked filter later
closed_asked filter later denies = tt
closed_asked filter later strays = tt

pub turn_asked : (state : State) (reply : Reply) → IsAsked (turn state reply).call (turn state reply).next
turn_asked (begins which arguments) reply = program_asked which arguments
turn_asked (echo_word later) reply = echo_end_asked later
turn_asked (echo_space later) reply = echo_asked later
turn_asked (opens filter name later) reply = opened_asked filter name later (fd_in reply)
turn_asked (works work source) reply = step_asked (work_step work (name_of source) reply) (filter_of work) source
turn_asked (closes filter later) reply = closed_asked filter later (done_in reply)
turn_asked (tees tee) reply = tee_asked tee reply
turn_asked told reply = tt
turn_asked ended reply = tt
