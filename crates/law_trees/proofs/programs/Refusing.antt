-- A refused call changes nothing; after it the program waits on, and depends on no more files than before. After a
-- refused write it goes on as if it had been done, or writes a message.
use Rattle.std.proofs.Common.{◌≡◌, inl, inr, ℕ, zero, suc, ◌<◌, false, List, [], ◌∷◌, ◌++◌, refl, arith}
use Rattle.std.specs.Prelude.{codes}
use Rattle.std.proofs.lemmas.Bool.{or_from}
use Rattle.mem_files.specs.Name.{Name, Bytes}
use Rattle.user_calls.specs.declared.calls.Call.{Call}
use Rattle.user_calls.specs.declared.calls.Call.TheVariants.{Fork, Exec, Exit, Wait, MakePipe, Read, Write, OpenFile, Close, Dup}
use Rattle.user_calls.specs.declared.calls.Reply.TheVariants.{Refused}
use Rattle.user_progs.specs.State.{Source, Work, cat_reads, cat_writes, head_reads, head_writes, wc_reads, wc_writes, grep_reads, grep_writes, Tee, tee_opens, tee_reads, tee_writes, tee_gives, State, begins, echo_word, echo_space, opens, works, closes, tees, told, ended}
use Rattle.user_progs.specs.Turn.{denies, turn, work_step, name_of, filter_of, fd_of, name_of_program, tee_opens_next}
use Rattle.tree_model.specs.Ahead.{still_opens, still_writes}
use Rattle.tree_model.specs.Alone.{World, after_call, after_read}
use Rattle.tree_model.specs.Waits.{WorkWaits, TeeWaits, Waits}
use Rattle.tree_model.specs.Frame.{holds, holds_to_write, depends_on, may_change}
use Rattle.tree_model.specs.Fits.{Fits}
use Rattle.tree_model.specs.Refusals.{IsTold, PassesOrTells}
use Rattle.law_trees.proofs.programs.Next.{turn_next}
use Rattle.law_trees.proofs.programs.Waiting.{StepWaits, buffer_waits, tells_wait, turn_waits, echo_waits, echo_end_waits, program_waits}
use Rattle.law_trees.proofs.programs.Shrinking.{opens_shrink, writes_shrink}
use Rattle.law_trees.proofs.programs.Holding.{step_none, echo_none, echo_end_none, tee_next_none, program_none, written_held}
use Rattle.meaning_model.proofs.Bools.{not_left, not_right}

-- nothing is changed
read_nothing : (fd : ℕ) (world : World) → after_read fd denies world ≡ world
read_nothing zero world = refl
read_nothing (suc fd) world = refl

pub changes_nothing : (call : Call) (world : World) → after_call call Refused world ≡ world
changes_nothing Fork world = refl
changes_nothing (Exec is_known) world = refl
changes_nothing Exit world = refl
changes_nothing Wait world = refl
changes_nothing MakePipe world = refl
changes_nothing (Read fd most) world = read_nothing fd world
changes_nothing (Write fd bytes) world = refl
changes_nothing (OpenFile name mode) world = refl
changes_nothing (Close fd) world = refl
changes_nothing (Dup fd) world = refl

-- it waits on
step_refused : (work : Work) (source : Source) (call : Call) → WorkWaits work (fd_of source) call → StepWaits (work_step work (name_of source) Refused)
step_refused cat_reads source call waits = tt
step_refused cat_writes source call waits = tt
step_refused (head_reads lines wanted) source call waits = tt
step_refused (head_writes lines wanted) source call waits = tt
step_refused (wc_reads lines words count inside) source call waits = tt
step_refused wc_writes source call waits = tt
step_refused (grep_reads pattern kept) source call waits = tt
step_refused (grep_writes pattern rest) source call waits = buffer_waits pattern rest waits.0

tee_refused : (tee : Tee) (world : World) → Waits (turn (tees tee) Refused).next (turn (tees tee) Refused).call world
tee_refused (tee_opens fds name later) world = tells_wait (codes "tee" ++ (codes ": cannot open " ++ (name ++ 10 ∷ []))) world
tee_refused (tee_reads fds) world = tells_wait (codes "tee: read error\n") world
tee_refused (tee_writes fds bytes) world = tells_wait (codes "tee: write error\n") world
tee_refused (tee_gives fds at bytes) world = tells_wait (codes "tee: write error\n") world

pub waits_refused : (state : State) (call : Call) (world : World) → Waits state call world → Waits (turn state Refused).next (turn state Refused).call world
waits_refused (begins program arguments) call world waits = program_waits program arguments world waits.1
waits_refused (echo_word later) call world waits = echo_end_waits later world waits.1
waits_refused (echo_space later) call world waits = echo_waits later world waits.1
waits_refused (opens filter name later) call world waits = tells_wait (name_of_program filter ++ (codes ": cannot open " ++ (name ++ 10 ∷ []))) world
waits_refused (works work source) call world waits = turn_waits (work_step work (name_of source) Refused) (filter_of work) source world (step_refused work source call waits.0) waits.1
waits_refused (closes filter later) call world waits = refl
waits_refused (tees tee) call world waits = tee_refused tee world
waits_refused told call world waits = refl
waits_refused ended call world waits = refl

pub fits_refused : (state : State) (world : World) → Fits (turn state Refused).next world
fits_refused state world =
    turn_next (λ (s : State). Fits s world)
    (record { ends = tt; tells = tt; word = λ later. tt; space = λ later. tt; ready = λ f n l. tt; work = λ w s. tt; close = λ f l. tt })
    (λ names. first names) state Refused (λ tee e. of_tee tee)
  where
    first : (names : List Name) → Fits (tee_opens_next [] names).next world
    first [] = tt
    first (name ∷ later) = tt

    of_tee : (tee : Tee) → Fits (turn (tees tee) Refused).next world
    of_tee (tee_opens fds name later) = tt
    of_tee (tee_reads fds) = tt
    of_tee (tee_writes fds bytes) = tt
    of_tee (tee_gives fds at bytes) = tt

-- it depends on no more files, and may change no more
tee_holds_none : (name : Name) (tee : Tee) (world : World) → holds (turn (tees tee) Refused).next world name ≡ false
tee_holds_none name (tee_opens fds current later) world = refl
tee_holds_none name (tee_reads fds) world = refl
tee_holds_none name (tee_writes fds bytes) world = refl
tee_holds_none name (tee_gives fds at bytes) world = refl

holds_refused : (name : Name) (state : State) (world : World) → holds state world name ≡ false → holds (turn state Refused).next world name ≡ false
holds_refused name (begins program arguments) world none = program_none name program arguments world
holds_refused name (echo_word later) world none = echo_end_none name later world
holds_refused name (echo_space later) world none = echo_none name later world
holds_refused name (opens filter current later) world none = refl
holds_refused name (works work source) world none = step_none name (work_step work (name_of source) Refused) (filter_of work) source world none
holds_refused name (closes filter later) world none = refl
holds_refused name (tees tee) world none = tee_holds_none name tee world
holds_refused name told world none = refl
holds_refused name ended world none = refl

writes_refused : (name : Name) (state : State) (world : World) → holds_to_write (turn state Refused).next world name ≡ false
writes_refused name state world =
    turn_next (λ (s : State). holds_to_write s world name ≡ false)
    (record { ends = refl; tells = refl; word = λ later. refl; space = λ later. refl; ready = λ f n l. refl; work = λ w s. refl; close = λ f l. refl })
    (λ names. written_held (tee_opens_next [] names).next world name (tee_next_none name [] names world refl))
    state Refused
    (λ tee e. written_held (turn (tees tee) Refused).next world name (tee_holds_none name tee world))

pub depends_refused : (state : State) (world : World) (name : Name) → depends_on state world name ≡ false → depends_on (turn state Refused).next world name ≡ false
depends_refused state world name none =
    or_from (still_opens (turn state Refused).next name) (holds (turn state Refused).next world name)
    (opens_shrink state Refused name (not_left (still_opens state name) (holds state world name) none))
    (holds_refused name state world (not_right (still_opens state name) (holds state world name) none))

pub changes_refused : (state : State) (world : World) (name : Name) → may_change state world name ≡ false → may_change (turn state Refused).next world name ≡ false
changes_refused state world name none =
    or_from (still_writes (turn state Refused).next name) (holds_to_write (turn state Refused).next world name)
    (writes_shrink state Refused name (not_left (still_writes state name) (holds_to_write state world name) none))
    (writes_refused name state world)

-- after a refused write a program goes on as if it had been done, or writes a message
work_passes : (work : Work) (source : Source) (fd : ℕ) (bytes : Bytes) → WorkWaits work (fd_of source) (Write fd bytes) → PassesOrTells (works work source)
work_passes cat_reads source fd bytes waits = cc
work_passes cat_writes source fd bytes waits = inr (codes "cat: write error\n", refl)
work_passes (head_reads lines wanted) source fd bytes waits = let is = waits.1 in cc
work_passes (head_writes lines wanted) source fd bytes waits = inr (codes "head: write error\n", refl)
work_passes (wc_reads lines words count inside) source fd bytes (a, b, c, is) = cc
work_passes wc_writes source fd bytes waits = inl refl
work_passes (grep_reads pattern kept) source fd bytes (none, few, is) = cc
work_passes (grep_writes pattern rest) source fd bytes waits = inl refl

tee_tells : (tee : Tee) (fd : ℕ) (bytes : Bytes) (world : World) → TeeWaits tee (Write fd bytes) world → IsTold (turn (tees tee) Refused)
tee_tells (tee_opens fds name later) fd bytes world waits = let is = waits.0 in cc
tee_tells (tee_reads fds) fd bytes world waits = let is = waits.0 in cc
tee_tells (tee_writes fds more) fd bytes world waits = (codes "tee: write error\n", refl)
tee_tells (tee_gives fds at more) fd bytes world waits = (codes "tee: write error\n", refl)

pub passes : (state : State) (fd : ℕ) (bytes : Bytes) (world : World) → Waits state (Write fd bytes) world → PassesOrTells state
passes (begins program arguments) fd bytes world waits = let is = waits.0 in cc
passes (echo_word later) fd bytes world waits = inl refl
passes (echo_space later) fd bytes world waits = inl refl
passes (opens filter name later) fd bytes world waits = cc
passes (works work source) fd bytes world waits = work_passes work source fd bytes waits.0
passes (closes filter later) fd bytes world (closing, is, held) = cc
passes (tees tee) fd bytes world waits = inr (tee_tells tee fd bytes world waits)
passes told fd bytes world waits = inl refl
passes ended fd bytes world waits = inl refl

-- of the programs, tee alone writes to files of its own: the others write their output to descriptor 1
pub to_one : (fd : ℕ) (bytes more : Bytes) → Write fd bytes ≡ Write 1 more → fd ≡ 1
to_one fd bytes more is = cc

pub work_to_one : (work : Work) (from fd : ℕ) (bytes : Bytes) → WorkWaits work from (Write fd bytes) → fd ≡ 1
work_to_one cat_reads from fd bytes waits = cc
work_to_one cat_writes from fd bytes (more, is) = to_one fd bytes more is
work_to_one (head_reads lines wanted) from fd bytes waits = let is = waits.1 in cc
work_to_one (head_writes lines wanted) from fd bytes (more, is) = to_one fd bytes more is
work_to_one (wc_reads lines words count inside) from fd bytes (a, b, c, is) = cc
work_to_one wc_writes from fd bytes (more, is) = to_one fd bytes more is
work_to_one (grep_reads pattern kept) from fd bytes (none, few, is) = cc
work_to_one (grep_writes pattern rest) from fd bytes waits = to_one fd bytes waits.1.0 waits.1.1

not_one : {A : Type 0} (fd : ℕ) → 2 < fd → fd ≡ 1 → A
not_one fd high one = absurd (omega (arith, one, high))

pub own_tells : (state : State) (fd : ℕ) (bytes : Bytes) (world : World) → Waits state (Write fd bytes) world → 2 < fd → IsTold (turn state Refused)
own_tells (begins program arguments) fd bytes world waits high = let is = waits.0 in cc
own_tells (echo_word later) fd bytes world ((more, is), short) high = not_one fd high (to_one fd bytes more is)
own_tells (echo_space later) fd bytes world ((more, is), short) high = not_one fd high (to_one fd bytes more is)
own_tells (opens filter name later) fd bytes world waits high = cc
own_tells (works work source) fd bytes world waits high = not_one fd high (work_to_one work (fd_of source) fd bytes waits.0)
own_tells (closes filter later) fd bytes world (closing, is, held) high = cc
own_tells (tees tee) fd bytes world waits high = tee_tells tee fd bytes world waits
own_tells told fd bytes world (at, some, low, (more, is)) high = let same : fd ≡ at = cc in absurd (omega (arith, same, low, high))
own_tells ended fd bytes world waits high = cc
