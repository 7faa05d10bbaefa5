-- After each reply that a program alone may be given, it waits for the reply to the call that it makes then.
use Rattle.std.proofs.Common.{◌≡◌, ◌⊎◌, inl, inr, ℕ, zero, suc, ◌<◌, ◌≤◌, Bool, true, false, List, [], ◌∷◌, ◌++◌, length, Option, Some, None, refl, sym, ap, subst, arith, ◌+◌, ◌-◌, nat_le}
use Rattle.std.specs.Prelude.{◌==◌, if◌then◌else◌, slice_index_or, codes}
use Rattle.std.specs.Option.{is_some}
use Rattle.std.proofs.lemmas.Bool.{eq-eqb}
use Rattle.std.proofs.lemmas.Bool.Decides.{nat_tests}
use Rattle.std.proofs.lemmas.List.{take_all, length-append}
use Rattle.grep_match.specs.Match.{matches}
use Rattle.prog_parts.specs.Lines.{HasNoLf}
use Rattle.prog_parts.specs.Grep.{is_whole, tested}
use Rattle.prog_parts.specs.Wc.{line_ends, words_after}
use Rattle.user_calls.specs.Limits.{block_size}
use Rattle.user_progs.proofs.Buffer.{at_match, at_other}
use Rattle.law_trees.proofs.programs.Search.{by_lines}
use Rattle.law_trees.proofs.programs.Counting.{capped_again}
use Rattle.law_trees.proofs.programs.Keeps.{found_short, heard_read}
use Rattle.law_trees.proofs.programs.Teeing.{new_file, tee_next_waits, tee_open_waits, tee_read_waits, gives_next_waits, gave}
use Rattle.mem_files.specs.Name.{Name, Bytes}
use Rattle.prog_parts.specs.declared.program.Program.{Program}
use Rattle.prog_parts.specs.declared.program.Program.TheVariants.{Cat, Echo, Grep, Head, Tee as Tee', Wc}
use Rattle.prog_parts.specs.Head.{head_files, has_wrong_option, line_count}
use Rattle.user_calls.specs.declared.calls.Mode.TheVariants.{Input}
use Rattle.user_calls.specs.declared.calls.Call.{Call}
use Rattle.user_calls.specs.declared.calls.Call.TheVariants.{Read, Write, OpenFile}
use Rattle.user_calls.specs.declared.calls.Reply.{Reply}
use Rattle.user_calls.specs.declared.calls.Reply.TheVariants.{Done, Bytes as Bytes', Fd, Refused}
use Rattle.user_progs.specs.State.{Filter, copying, heading, counting, searching, Source, standard, file, Work, cat_reads, cat_writes, head_reads, head_writes, wc_reads, wc_writes, grep_reads, grep_writes, Tee, tee_opens, tee_reads, tee_writes, tee_gives, State, begins, echo_word, echo_space, opens, works, closes, tees, told, ended}
use Rattle.user_progs.specs.Turn.{Answer, yields, denies, strays, Turn, Step, reads, writes, finishes, fails, quits, tells, name_of_program, bytes_in, fd_in, done_in, turn, turn_by, first_step, work_step, filter_of, fd_of, block, opened_by, closed_by, opens_next, begins_filter, begins_head, begins_program, echo_next, echo_end, cat_got, cat_wrote, head_got, head_goes_on, head_wrote, wc_got, grep_got, grep_goes_on, grep_lines, name_of, tee_opened, tee_turn}
use Rattle.tree_model.specs.Alone.{OwnFile, World, held, moved_on, MayOpen, may_write, done_if, May, can_open, after_read, after_write, after_call}
use Rattle.tree_model.specs.Waits.{AreShort, BeginsShort, IsWrite, IsOpenToRead, IsOpen, WorkWaits, TeeWaits, Waits}

-- the work waits for the reply to the call that this step makes
abbrev pub StepWaits : Step → Type 0
StepWaits (reads most work) = (fd : ℕ) → WorkWaits work fd (Read fd most)
StepWaits (writes bytes work) = (fd : ℕ) → WorkWaits work fd (Write 1 bytes)
StepWaits finishes = Unit {0}
StepWaits (fails message) = Unit {0}
StepWaits quits = Unit {0}

cat_got_waits : (got : Answer Bytes) → StepWaits (cat_got got)
cat_got_waits (yields []) = tt
cat_got_waits (yields (byte ∷ bytes)) = λ fd. (byte ∷ bytes, refl)
cat_got_waits denies = tt
cat_got_waits strays = tt

cat_wrote_waits : (said : Answer (Unit {0})) → StepWaits (cat_wrote said)
cat_wrote_waits (yields done) = λ fd. refl
cat_wrote_waits denies = tt
cat_wrote_waits strays = tt

head_goes_on_waits : (lines wanted : ℕ) → StepWaits (head_goes_on lines wanted)
head_goes_on_waits lines zero = tt
head_goes_on_waits lines (suc wanted) = λ fd. (omega arith, refl)

head_got_waits : (lines wanted : ℕ) (got : Answer Bytes) → StepWaits (head_got lines wanted got)
head_got_waits lines wanted (yields []) = tt
head_got_waits lines zero (yields (byte ∷ bytes)) = tt
head_got_waits lines (suc wanted) (yields (byte ∷ bytes)) = λ fd. (byte ∷ [], refl)
head_got_waits lines wanted denies = tt
head_got_waits lines wanted strays = tt

head_wrote_waits : (lines wanted : ℕ) (said : Answer (Unit {0})) → StepWaits (head_wrote lines wanted said)
head_wrote_waits lines wanted (yields done) = head_goes_on_waits lines wanted
head_wrote_waits lines wanted denies = tt
head_wrote_waits lines wanted strays = tt

wc_got_waits : (l w c : ℕ) (inside : Bool) (name : Name) (got : Answer Bytes) → StepWaits (wc_got l w c inside name got)
wc_got_waits l w c inside name denies = tt
wc_got_waits l w c inside name strays = tt
wc_got_waits l w c inside name (yields []) = λ fd. (_, refl)
wc_got_waits l w c inside name (yields (byte ∷ bytes)) =
    λ fd. (capped_again (l + line_ends (byte ∷ bytes)), capped_again (w + words_after inside (byte ∷ bytes)), capped_again (c + length (byte ∷ bytes)), refl)

-- grep's buffer
abbrev BufferWaits : Bytes → Bytes → Type 0
BufferWaits pattern buffer = length buffer ≤ 1023 → StepWaits (grep_goes_on pattern buffer)

no_line_waits : (pattern buffer : Bytes) → tested buffer ≡ [] → BufferWaits pattern buffer
no_line_waits pattern buffer nothing few =
    subst StepWaits (sym (ap (λ ls. grep_lines pattern ls buffer) nothing)) (go (nat_le 1023 (length buffer)) refl)
  where
    go : (is : Bool) → nat_le 1023 (length buffer) ≡ is → StepWaits (if is then finishes else reads (1023 - length buffer) (grep_reads pattern buffer))
    go true e = tt
    go false e = λ fd. (nothing, grind (arith, nat_tests), refl)

line_waits : (pattern line rest : Bytes) → HasNoLf line → is_whole line ≡ true → BufferWaits pattern rest → BufferWaits pattern (line ++ 10 ∷ rest)
line_waits pattern line rest none whole again few = go (matches pattern line) refl
  where
    go : (is : Bool) → matches pattern line ≡ is → StepWaits (grep_goes_on pattern (line ++ 10 ∷ rest))
    go true is =
        subst StepWaits (sym (at_match pattern line rest (line ++ 10 ∷ rest) none refl whole is))
        (λ fd. (omega (arith, few, length-append line (10 ∷ rest)), (_, refl)))
    go false is =
        subst StepWaits (sym (at_other pattern line rest (line ++ 10 ∷ rest) none refl whole is))
        (again (omega (arith, few, length-append line (10 ∷ rest))))

pub buffer_waits : (pattern buffer : Bytes) → length buffer ≤ 1023 → StepWaits (grep_goes_on pattern buffer)
buffer_waits pattern buffer few = by_lines (BufferWaits pattern) (no_line_waits pattern) (line_waits pattern) (length buffer) buffer (omega arith) few

grep_got_waits : (pattern kept bytes : Bytes) → length kept < 1023 → length bytes ≤ 1023 - length kept → StepWaits (grep_got pattern kept (yields bytes))
grep_got_waits pattern kept [] room few = tt
grep_got_waits pattern kept (byte ∷ bytes) room few =
    let size : length (kept ++ byte ∷ bytes) ≤ 1023 = omega (arith, room, few, length-append kept (byte ∷ bytes)) in
    subst (λ (z : Bytes). StepWaits (grep_goes_on pattern z)) (sym (take_all block_size (kept ++ byte ∷ bytes) (omega (arith, size)))) (buffer_waits pattern (kept ++ byte ∷ bytes) size)

pub first_waits : (filter : Filter) → StepWaits (first_step filter)
first_waits copying = λ fd. refl
first_waits (heading lines) = head_goes_on_waits lines lines
first_waits counting = λ fd. (refl, refl, refl, refl)
first_waits (searching pattern) = λ fd. (refl, omega arith, refl)

-- after a reply that may be
pub step_waits : (work : Work) (source : Source) (call : Call) (reply : Reply) (world : World) → WorkWaits work (fd_of source) call → IsOpen source world → May call reply world → StepWaits (work_step work (name_of source) reply)
step_waits cat_reads source call reply world waits ready may = cat_got_waits (bytes_in reply)
step_waits cat_writes source call reply world waits ready may = cat_wrote_waits (done_in reply)
step_waits (head_reads lines wanted) source call reply world waits ready may = head_got_waits lines wanted (bytes_in reply)
step_waits (head_writes lines wanted) source call reply world waits ready may = head_wrote_waits lines wanted (done_in reply)
step_waits (wc_reads l w c inside) source call reply world waits ready may = wc_got_waits l w c inside (name_of source) (bytes_in reply)
step_waits wc_writes source call reply world waits ready may = tt
step_waits (grep_reads pattern kept) source call reply world waits ready may =
    let heard = heard_read source call reply world (1023 - length kept) waits.2 ready may in
    subst (λ (r : Reply). StepWaits (grep_got pattern kept (bytes_in r))) (sym heard.1) (grep_got_waits pattern kept heard.0 waits.1 heard.2.few)
step_waits (grep_writes pattern rest) source call reply world waits ready may = buffer_waits pattern rest waits.0

abbrev pub TurnWaits : Turn → World → Type 0
TurnWaits turn world = Waits turn.next turn.call world

pub tells_wait : (message : Bytes) (world : World) → TurnWaits (tells message) world
tells_wait message world = (2, omega arith, omega arith, (block message, refl))

held_some : (name : Name) (h : Option OwnFile) → IsOpenToRead name h → is_some h ≡ true
held_some name None is = absurd is
held_some name (Some own) is = refl

pub turn_waits : (step : Step) (filter : Filter) (source : Source) (world : World) → StepWaits step → IsOpen source world → TurnWaits (turn_by step filter source) world
turn_waits (reads most work) filter source world waits ready = (waits (fd_of source), ready)
turn_waits (writes bytes work) filter source world waits ready = (waits (fd_of source), ready)
turn_waits finishes filter standard world waits ready = refl
turn_waits finishes filter (file fd name later) world waits ready = (fd, refl, held_some name (held world.own fd) ready.2)
turn_waits (fails message) filter source world waits ready = tells_wait message world
turn_waits quits filter source world waits ready = refl

next_waits : (filter : Filter) (names : List Name) (world : World) → TurnWaits (opens_next filter names) world
next_waits filter [] world = refl
next_waits filter (name ∷ later) world = refl

filter_waits : (filter : Filter) (names : List Name) (world : World) → TurnWaits (begins_filter filter names) world
filter_waits filter [] world = turn_waits (first_step filter) filter standard world (first_waits filter) tt
filter_waits filter (name ∷ later) world = refl

head_waits : (wrong : Bool) (arguments : List Bytes) (world : World) → TurnWaits (begins_head wrong arguments) world
head_waits true arguments world = tells_wait (codes "usage: head [-N] [file ...]\n") world
head_waits false arguments world = filter_waits (heading (line_count arguments)) (head_files arguments) world

pub echo_waits : (arguments : List Bytes) (world : World) → AreShort arguments → TurnWaits (echo_next arguments) world
echo_waits [] world short = refl
echo_waits (argument ∷ later) world short = ((block argument, refl), short.1)

pub echo_end_waits : (later : List Bytes) (world : World) → AreShort later → TurnWaits (echo_end later) world
echo_end_waits [] world short = (1, omega arith, omega arith, (_, refl))
echo_end_waits (argument ∷ later) world short = ((_, refl), short)

pub program_waits : (program : Program) (arguments : List Bytes) (world : World) → BeginsShort program arguments → TurnWaits (begins_program program arguments) world
program_waits Cat arguments world short = filter_waits copying arguments world
program_waits Echo arguments world short = echo_waits arguments world short
program_waits Grep [] world short = tells_wait (codes "usage: grep pattern [file ...]\n") world
program_waits Grep (pattern ∷ names) world short = filter_waits (searching pattern) names world
program_waits Head arguments world short = head_waits (has_wrong_option arguments) arguments world
program_waits Tee' arguments world short = tee_next_waits [] arguments world (omega (arith, short)) tt tt
program_waits Wc arguments world short = filter_waits counting arguments world

closed_waits : (filter : Filter) (later : List Name) (said : Answer (Unit {0})) (world : World) → TurnWaits (closed_by filter later said) world
closed_waits filter later (yields done) world = next_waits filter later world
closed_waits filter later denies world = refl
closed_waits filter later strays world = refl

-- a file that was opened
opened_open : (fd : ℕ) (name : Name) (later : List Name) (world : World) (bytes : Bytes) → can_open (block name) Input world.files ≡ Some bytes → 2 < fd →
    IsOpen (file fd name later) (after_call (OpenFile (block name) Input) (Fd fd) world)
opened_open fd name later world bytes e high =
    let short = found_short world.files name bytes e in
    (high, short, subst (IsOpenToRead name) (sym (ap (λ (t : Bool). if t then Some (new_file fd (block name) Input) else held world.own fd) (eq-eqb fd fd refl))) (take_all block_size name (omega (arith, short)), refl))

opened_waits : (filter : Filter) (name : Name) (later : List Name) (o : Option Bytes) (reply : Reply) (world : World) → can_open (block name) Input world.files ≡ o → MayOpen o reply world →
    TurnWaits (opened_by filter name later (fd_in reply)) (after_call (OpenFile (block name) Input) reply world)
opened_waits filter name later None reply world e is =
    subst (λ (r : Reply). TurnWaits (opened_by filter name later (fd_in r)) (after_call (OpenFile (block name) Input) r world)) (sym is) (tells_wait (name_of_program filter ++ (codes ": cannot open " ++ (name ++ 10 ∷ []))) world)
opened_waits filter name later (Some bytes) reply world e (fd, is, new) =
    subst (λ (r : Reply). TurnWaits (opened_by filter name later (fd_in r)) (after_call (OpenFile (block name) Input) r world)) (sym is)
    (turn_waits (first_step filter) filter (file fd name later) (after_call (OpenFile (block name) Input) (Fd fd) world) (first_waits filter) (opened_open fd name later world bytes e new.0))

-- the work on an input reads it, or writes to 1
abbrev pub IsOwnCall : ℕ → Call → Type 0
IsOwnCall fd call = ((most : ℕ) × (call ≡ Read fd most)) ⊎ IsWrite 1 call

pub own_call : (work : Work) (fd : ℕ) (call : Call) → WorkWaits work fd call → IsOwnCall fd call
own_call cat_reads fd call waits = inl (512, waits)
own_call cat_writes fd call waits = inr waits
own_call (head_reads lines wanted) fd call waits = inl (1, waits.1)
own_call (head_writes lines wanted) fd call waits = inr waits
own_call (wc_reads lines words count inside) fd call waits = inl (512, waits.3)
own_call wc_writes fd call waits = inr waits
own_call (grep_reads pattern kept) fd call waits = inl (_, waits.2)
own_call (grep_writes pattern rest) fd call waits = inr waits.1

-- a read or a write of the work leaves its input open
moved_held : (name : Name) (own : List OwnFile) (fd count other : ℕ) → IsOpenToRead name (held own other) → IsOpenToRead name (held (moved_on own fd count) other)
moved_held name [] fd count other is = is
moved_held name (f ∷ own) fd count other is = go (f.fd == fd) (moved_held name own fd count other)
  where
    here : (t : Bool) → IsOpenToRead name (if t then Some f else held own other) → IsOpenToRead name (if t then Some (record f { at = f.at + count }) else held own other)
    here true is = is
    here false is = is

    behind : (t : Bool) → IsOpenToRead name (if t then Some f else held own other) → (IsOpenToRead name (held own other) → IsOpenToRead name (held (moved_on own fd count) other)) →
        IsOpenToRead name (if t then Some f else held (moved_on own fd count) other)
    behind true is ih = is
    behind false is ih = ih is

    go : (moves : Bool) → (IsOpenToRead name (held own other) → IsOpenToRead name (held (moved_on own fd count) other)) → IsOpenToRead name (held (if moves then record f { at = f.at + count } ∷ own else f ∷ moved_on own fd count) other)
    go true ih = here (f.fd == other) is
    go false ih = behind (f.fd == other) is ih

after_read_open : (source : Source) (fd : ℕ) (got : Answer Bytes) (world : World) → IsOpen source world → IsOpen source (after_read fd got world)
after_read_open standard fd got world ready = tt
after_read_open (file at name later) zero (yields bytes) world ready = ready
after_read_open (file at name later) (suc fd) (yields bytes) world ready = (ready.0, ready.1, moved_held name world.own (suc fd) (length bytes) at ready.2)
after_read_open (file at name later) fd denies world ready = ready
after_read_open (file at name later) fd strays world ready = ready

after_out_open : (source : Source) (bytes : Bytes) (said : Answer (Unit {0})) (world : World) → IsOpen source world → IsOpen source (after_write 1 bytes said world)
after_out_open source bytes (yields done) world ready = ready
after_out_open source bytes denies world ready = ready
after_out_open source bytes strays world ready = ready

after_work_open : (work : Work) (source : Source) (call : Call) (reply : Reply) (world : World) → WorkWaits work (fd_of source) call → IsOpen source world → IsOpen source (after_call call reply world)
after_work_open work source call reply world waits ready = go (own_call work (fd_of source) call waits)
  where
    go : IsOwnCall (fd_of source) call → IsOpen source (after_call call reply world)
    go (inl (most, is)) = subst (λ (c : Call). IsOpen source (after_call c reply world)) (sym is) (after_read_open source (fd_of source) (bytes_in reply) world ready)
    go (inr (bytes, is)) = subst (λ (c : Call). IsOpen source (after_call c reply world)) (sym is) (after_out_open source bytes (done_in reply) world ready)

-- where the reply and the call are known
heard_waits : (tee : Tee) (call known : Call) (reply said : Reply) (world : World) → call ≡ known → reply ≡ said →
    Waits (tee_turn tee said).next (tee_turn tee said).call (after_call known said world) → Waits (tee_turn tee reply).next (tee_turn tee reply).call (after_call call reply world)
heard_waits tee call known reply said world is heard waits =
    subst (λ (r : Reply). Waits (tee_turn tee r).next (tee_turn tee r).call (after_call call r world)) (sym heard)
    (subst (λ (c : Call). Waits (tee_turn tee said).next (tee_turn tee said).call (after_call c said world)) (sym is) waits)

-- after each reply that tee may be given
tee_waits_on : (tee : Tee) (call : Call) (reply : Reply) (world : World) → TeeWaits tee call world → May call reply world →
    Waits (tee_turn tee reply).next (tee_turn tee reply).call (after_call call reply world)
tee_waits_on (tee_opens fds name later) call reply world (is, few, distinct, at) may =
    subst (λ (c : Call). Waits (tee_opened fds name later (fd_in reply)).next (tee_opened fds name later (fd_in reply)).call (after_call c reply world)) (sym is)
    (tee_open_waits fds name later world reply few distinct at (subst (λ (c : Call). May c reply world) is may))
tee_waits_on (tee_reads fds) call reply world (is, distinct, (place, at)) may =
    let heard : May (Read 0 512) reply world = subst (λ (c : Call). May c reply world) is may in
    heard_waits (tee_reads fds) call (Read 0 512) reply (Bytes' heard.0) world is heard.1 (tee_read_waits fds place world heard.0 distinct at)
tee_waits_on (tee_writes fds bytes) call reply world (is, distinct, (place, at)) may =
    heard_waits (tee_writes fds bytes) call (Write 1 bytes) reply Done world is (subst (λ (c : Call). May c reply world) is may)
    (gives_next_waits fds 0 place bytes world distinct tt at)
tee_waits_on (tee_gives fds at bytes) call reply world (is, inside, distinct, (place, had, stands)) may =
    go (may_write fd world) (subst (λ (c : Call). May c reply world) is may)
  where
    fd : ℕ
    fd = slice_index_or fds at 0

    go : (can : Bool) → reply ≡ done_if can → Waits (tee_turn (tee_gives fds at bytes) reply).next (tee_turn (tee_gives fds at bytes) reply).call (after_call call reply world)
    go true heard =
        let now = gave fds at bytes place world inside distinct had stands in
        heard_waits (tee_gives fds at bytes) call (Write fd bytes) reply Done world is heard
        (gives_next_waits fds (at + 1) place bytes (after_call (Write fd bytes) Done world) distinct now.had now.stands)
    go false heard = heard_waits (tee_gives fds at bytes) call (Write fd bytes) reply Refused world is heard (tells_wait (codes "tee: write error\n") world)

pub waits_on : (state : State) (call : Call) (reply : Reply) (world : World) → Waits state call world → May call reply world →
    Waits (turn state reply).next (turn state reply).call (after_call call reply world)
waits_on (begins program arguments) call reply world waits may = program_waits program arguments (after_call call reply world) waits.1
waits_on (echo_word later) call reply world waits may = echo_end_waits later (after_call call reply world) waits.1
waits_on (echo_space later) call reply world waits may = echo_waits later (after_call call reply world) waits.1
waits_on (opens filter name later) call reply world waits may =
    subst (λ (c : Call). Waits (turn (opens filter name later) reply).next (turn (opens filter name later) reply).call (after_call c reply world)) (sym waits)
    (opened_waits filter name later (can_open (block name) Input world.files) reply world refl (subst (λ (c : Call). May c reply world) waits may))
waits_on (works work source) call reply world waits may =
    turn_waits (work_step work (name_of source) reply) (filter_of work) source (after_call call reply world) (step_waits work source call reply world waits.0 waits.1 may)
    (after_work_open work source call reply world waits.0 waits.1)
waits_on (closes filter later) call reply world waits may = closed_waits filter later (done_in reply) (after_call call reply world)
waits_on (tees tee) call reply world waits may = tee_waits_on tee call reply world waits may
waits_on told call reply world waits may = refl
waits_on ended call reply world waits may = refl
