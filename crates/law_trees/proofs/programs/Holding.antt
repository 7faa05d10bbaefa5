-- What a program holds open comes from the names that it may still open: after each reply it depends on no more files, and
-- may change no more.
use Rattle.std.proofs.Common.{◌≡◌, ◌∙◌, inl, inr, ℕ, zero, suc, ◌+◌, ◌==◌, nat_lt, Bool, true, false, List, [], ◌∷◌, ◌++◌, length, take, drop, Option, Some, None, refl, sym, ap, subst, arith}
use Rattle.std.specs.Prelude.{◌||◌, slice_index_or, if◌then◌else◌}
use Rattle.std.specs.Str.{bytes_eq}
use Rattle.std.specs.Option.{is_some}
use Rattle.std.proofs.lemmas.Bool.{eq-eqb, or_from}
use Rattle.std.proofs.lemmas.List.{take_all, take-append-drop}
use Rattle.mem_files.specs.Name.{Name, Bytes}
use Rattle.prog_parts.specs.declared.program.Program.{Program}
use Rattle.prog_parts.specs.declared.program.Program.TheVariants.{Cat, Echo, Grep, Head, Tee as Tee', Wc}
use Rattle.prog_parts.specs.Head.{head_files, has_wrong_option, line_count}
use Rattle.prog_parts.specs.NameSets.{among}
use Rattle.user_calls.specs.Limits.{block_size}
use Rattle.user_calls.specs.declared.calls.Mode.TheVariants.{Input, Fresh}
use Rattle.user_calls.specs.declared.calls.Call.{Call}
use Rattle.user_calls.specs.declared.calls.Call.TheVariants.{Write, OpenFile}
use Rattle.user_calls.specs.declared.calls.Reply.{Reply}
use Rattle.user_calls.specs.declared.calls.Reply.TheVariants.{Fd}
use Rattle.user_progs.specs.State.{Filter, copying, heading, counting, searching, Source, standard, file, Tee, tee_opens, tee_reads, tee_writes, tee_gives, State, begins, echo_word, echo_space, opens, works, closes, tees, told, ended}
use Rattle.user_progs.specs.Turn.{Answer, yields, denies, strays, Turn, Step, reads, writes, finishes, fails, quits, bytes_in, fd_in, done_in, closed_by, turn, turn_by, first_step, work_step, filter_of, name_of, fd_of, block, opened_by, opens_next, begins_filter, begins_head, begins_program, echo_next, echo_end, tee_waits, tee_opens_next, tee_got, tee_gives_next, tee_wrote, tee_turn}
use Rattle.tree_model.specs.Ahead.{tee_opens_still, still_opens, still_writes}
use Rattle.tree_model.specs.Alone.{OwnFile, World, held, moved_on, MayOpen, May, can_open, after_read, after_file_write, after_write, after_call}
use Rattle.tree_model.specs.Given.{place_or, place_in, AreAt}
use Rattle.tree_model.specs.Waits.{TeeWaits, Waits}
use Rattle.tree_model.specs.Frame.{is_held, is_given, source_holds, tee_holds, holds, holds_to_write, depends_on, may_change}
use Rattle.law_trees.proofs.programs.Giving.{opened_place, new_other}
use Rattle.law_trees.proofs.programs.Teeing.{with_new, new_file, by_open}
use Rattle.law_trees.proofs.programs.Keeps.{found_short}
use Rattle.law_trees.proofs.programs.Next.{turn_next}
use Rattle.law_trees.proofs.programs.Waiting.{IsOwnCall, own_call}
use Rattle.law_trees.proofs.programs.Shrinking.{opens_shrink, writes_shrink}
use Rattle.meaning_model.proofs.Bools.{not_left, not_right}

or_assoc : (a b c : Bool) → ((a || b) || c) ≡ (a || (b || c))
or_assoc true b c = refl
or_assoc false b c = refl

-- the names at descriptors stay where a file goes on

moved_name : (own : List OwnFile) (fd other count : ℕ) (name : Name) → is_held (held (moved_on own fd count) other) name ≡ is_held (held own other) name
moved_name [] fd other count name = refl
moved_name (f ∷ later) fd other count name = go (f.fd == fd) (moved_name later fd other count name)
  where
    here : (t : Bool) → is_held (if t then Some (record f { at = f.at + count }) else held later other) name ≡ is_held (if t then Some f else held later other) name
    here true = refl
    here false = refl

    behind : (t : Bool) → is_held (held (moved_on later fd count) other) name ≡ is_held (held later other) name →
        is_held (if t then Some f else held (moved_on later fd count) other) name ≡ is_held (if t then Some f else held later other) name
    behind true ih = refl
    behind false ih = ih

    go : (is : Bool) → is_held (held (moved_on later fd count) other) name ≡ is_held (held later other) name →
        is_held (held (if is then record f { at = f.at + count } ∷ later else f ∷ moved_on later fd count) other) name ≡ is_held (if f.fd == other then Some f else held later other) name
    go true ih = here (f.fd == other)
    go false ih = behind (f.fd == other) ih

given_cons : (h : Option OwnFile) (name : Name) (later : Option ℕ) → is_some (place_or h name later) ≡ (is_held h name || is_some later)
given_cons None name later = refl
given_cons (Some f) name later = go (bytes_eq name f.name)
  where
    go : (t : Bool) → is_some (if t then Some f.at else later) ≡ (t || is_some later)
    go true = refl
    go false = refl

given_moved : (fds : List ℕ) (own : List OwnFile) (fd count : ℕ) (name : Name) → is_given fds (moved_on own fd count) name ≡ is_given fds own name
given_moved [] own fd count name = refl
given_moved (other ∷ fds) own fd count name =
    let here = moved_name own fd other count name in
    let later = given_moved fds own fd count name in
    given_cons (held (moved_on own fd count) other) name (place_in fds (moved_on own fd count) name)
    ∙ (λ i. here i || later i)
    ∙ sym (given_cons (held own other) name (place_in fds own name))

given_append : (fds more : List ℕ) (own : List OwnFile) (name : Name) → is_given (fds ++ more) own name ≡ (is_given fds own name || is_given more own name)
given_append [] more own name = refl
given_append (fd ∷ fds) more own name =
    given_cons (held own fd) name (place_in (fds ++ more) own name)
    ∙ ap (λ (t : Bool). is_held (held own fd) name || t) (given_append fds more own name)
    ∙ sym (or_assoc (is_held (held own fd) name) (is_given fds own name) (is_given more own name))
    ∙ ap (λ (t : Bool). t || is_given more own name) (sym (given_cons (held own fd) name (place_in fds own name)))

pub cut_given : (at : ℕ) (fds : List ℕ) (own : List OwnFile) (name : Name) → is_given fds own name ≡ (is_given (take at fds) own name || is_given (drop at fds) own name)
cut_given at fds own name = ap (λ (ds : List ℕ). is_given ds own name) (sym (take-append-drop at fds)) ∙ given_append (take at fds) (drop at fds) own name

write_given : (fds : List ℕ) (fd : ℕ) (bytes : Bytes) (said : Answer (Unit {0})) (world : World) (name : Name) → is_given fds (after_write fd bytes said world).own name ≡ is_given fds world.own name
write_given fds fd bytes denies world name = refl
write_given fds fd bytes strays world name = refl
write_given fds zero bytes (yields done) world name = refl
write_given fds (suc zero) bytes (yields done) world name = refl
write_given fds (suc (suc zero)) bytes (yields done) world name = refl
write_given fds (suc (suc (suc fd))) bytes (yields done) world name = go (held world.own (suc (suc (suc fd))))
  where
    go : (h : Option OwnFile) → is_given fds (after_file_write h bytes world).own name ≡ is_given fds world.own name
    go None = refl
    go (Some f) = given_moved fds world.own f.fd (length bytes) name

-- after a turn, no file of this name is open
abbrev pub HoldsNone : Name → Turn → World → Type 0
HoldsNone name turn world = holds turn.next world name ≡ false

pub step_none : (name : Name) (step : Step) (filter : Filter) (source : Source) (world : World) → source_holds source world name ≡ false → HoldsNone name (turn_by step filter source) world
step_none name (reads most work) filter source world none = none
step_none name (writes bytes work) filter source world none = none
step_none name finishes filter standard world none = refl
step_none name finishes filter (file fd current later) world none = refl
step_none name (fails message) filter source world none = refl
step_none name quits filter source world none = refl

next_none : (name : Name) (filter : Filter) (names : List Name) (world : World) → HoldsNone name (opens_next filter names) world
next_none name filter [] world = refl
next_none name filter (current ∷ later) world = refl

filter_none : (name : Name) (filter : Filter) (names : List Name) (world : World) → HoldsNone name (begins_filter filter names) world
filter_none name filter [] world = step_none name (first_step filter) filter standard world refl
filter_none name filter (current ∷ later) world = refl

head_none : (name : Name) (wrong : Bool) (arguments : List Bytes) (world : World) → HoldsNone name (begins_head wrong arguments) world
head_none name true arguments world = refl
head_none name false arguments world = filter_none name (heading (line_count arguments)) (head_files arguments) world

pub echo_none : (name : Name) (arguments : List Bytes) (world : World) → HoldsNone name (echo_next arguments) world
echo_none name [] world = refl
echo_none name (argument ∷ later) world = refl

pub echo_end_none : (name : Name) (later : List Bytes) (world : World) → HoldsNone name (echo_end later) world
echo_end_none name [] world = refl
echo_end_none name (argument ∷ later) world = refl

pub tee_next_none : (name : Name) (fds : List ℕ) (names : List Name) (world : World) → is_given fds world.own name ≡ false → HoldsNone name (tee_opens_next fds names) world
tee_next_none name fds [] world none = none
tee_next_none name fds (current ∷ later) world none = none

pub program_none : (name : Name) (program : Program) (arguments : List Bytes) (world : World) → HoldsNone name (begins_program program arguments) world
program_none name Cat arguments world = filter_none name copying arguments world
program_none name Echo arguments world = echo_none name arguments world
program_none name Grep [] world = refl
program_none name Grep (pattern ∷ names) world = filter_none name (searching pattern) names world
program_none name Head arguments world = head_none name (has_wrong_option arguments) arguments world
program_none name Tee' arguments world = tee_next_none name [] arguments world refl
program_none name Wc arguments world = filter_none name counting arguments world

closed_none : (name : Name) (filter : Filter) (later : List Name) (said : Answer (Unit {0})) (world : World) → HoldsNone name (closed_by filter later said) world
closed_none name filter later (yields done) world = next_none name filter later world
closed_none name filter later denies world = refl
closed_none name filter later strays world = refl

-- a new file has the name that was asked for
itself_held : (fd : ℕ) (new : OwnFile) (own : List OwnFile) → new.fd ≡ fd → held (new ∷ own) fd ≡ Some new
itself_held fd new own is = ap (λ (t : Bool). if t then Some new else held own fd) (eq-eqb new.fd fd is)

opened_none : (name : Name) (filter : Filter) (current : Name) (later : List Name) (world : World) (reply : Reply) → bytes_eq name current ≡ false → May (OpenFile (block current) Input) reply world →
    HoldsNone name (opened_by filter current later (fd_in reply)) (after_call (OpenFile (block current) Input) reply world)
opened_none name filter current later world reply other may = go (can_open (block current) Input world.files) refl may
  where
    go : (o : Option Bytes) → can_open (block current) Input world.files ≡ o → MayOpen o reply world → HoldsNone name (opened_by filter current later (fd_in reply)) (after_call (OpenFile (block current) Input) reply world)
    go None e is = subst (λ (r : Reply). HoldsNone name (opened_by filter current later (fd_in r)) (after_call (OpenFile (block current) Input) r world)) (sym is) refl
    go (Some bytes) e (fd, is, new) =
        let whole : block current ≡ current = take_all block_size current (omega (arith, found_short world.files current bytes e)) in
        subst (λ (r : Reply). HoldsNone name (opened_by filter current later (fd_in r)) (after_call (OpenFile (block current) Input) r world)) (sym is)
        (step_none name (first_step filter) filter (file fd current later) (after_call (OpenFile (block current) Input) (Fd fd) world)
        (ap (λ (h : Option OwnFile). is_held h name) (itself_held fd (new_file fd (block current) Input) world.own refl) ∙ ap (bytes_eq name) whole ∙ other))

read_name : (fd : ℕ) (got : Answer Bytes) (world : World) (name : Name) → is_held (held (after_read fd got world).own fd) name ≡ is_held (held world.own fd) name
read_name fd denies world name = refl
read_name fd strays world name = refl
read_name zero (yields bytes) world name = refl
read_name (suc fd) (yields bytes) world name = moved_name world.own (suc fd) (suc fd) (length bytes) name

source_after : (source : Source) (call : Call) (reply : Reply) (world : World) (name : Name) → IsOwnCall (fd_of source) call → source_holds source (after_call call reply world) name ≡ source_holds source world name
source_after standard call reply world name own = refl
source_after (file fd current later) call reply world name (inl (most, is)) = ap (λ (c : Call). is_held (held (after_call c reply world).own fd) name) is ∙ read_name fd (bytes_in reply) world name
source_after (file fd current later) call reply world name (inr (bytes, is)) = ap (λ (c : Call). is_held (held (after_call c reply world).own fd) name) is ∙ go (done_in reply)
  where
    go : (said : Answer (Unit {0})) → is_held (held (after_write 1 bytes said world).own fd) name ≡ is_held (held world.own fd) name
    go (yields done) = refl
    go denies = refl
    go strays = refl

-- tee

tee_opened_given : (name : Name) (fds : List ℕ) (current : Name) (fd : ℕ) (world : World) → AreAt 0 fds world.own world.files → held world.own fd ≡ None → bytes_eq name current ≡ false → is_given fds world.own name ≡ false →
    is_given (fds ++ fd ∷ []) (new_file fd current Fresh ∷ world.own) name ≡ false
tee_opened_given name fds current fd world at new other none =
    let own = new_file fd current Fresh ∷ world.own in
    let before = ap (λ (o : Option ℕ). is_some o) (opened_place fds world.own (new_file fd current Fresh) name (new_other 0 fds world.own world.files fd new at)) ∙ none in
    let here = given_cons (held own fd) name None ∙ ap (λ (h : Option OwnFile). is_held h name || false) (itself_held fd (new_file fd current Fresh) world.own refl) ∙ or_from (bytes_eq name current) false other refl in
    given_append fds (fd ∷ []) own name ∙ or_from (is_given fds own name) (is_given (fd ∷ []) own name) before here

tee_got_none : (name : Name) (fds : List ℕ) (got : Answer Bytes) (world : World) → is_given fds world.own name ≡ false → HoldsNone name (tee_got fds got) (after_read 0 got world)
tee_got_none name fds denies world none = refl
tee_got_none name fds strays world none = refl
tee_got_none name fds (yields []) world none = refl
tee_got_none name fds (yields (byte ∷ bytes)) world none = none

gives_none : (name : Name) (fds : List ℕ) (at : ℕ) (bytes : Bytes) (world : World) → is_given fds world.own name ≡ false → HoldsNone name (tee_gives_next fds at bytes) world
gives_none name fds at bytes world none = go (nat_lt at (length fds))
  where
    go : (more : Bool) → HoldsNone name (if more then record { call = Write (slice_index_or fds at 0) bytes; next = tees (tee_gives fds at bytes) } else tee_waits fds) world
    go true =
        let cut = sym (cut_given at fds world.own name) ∙ none in
        or_from (is_given (drop at fds) world.own name) (is_given (take at fds) world.own name) (not_right (is_given (take at fds) world.own name) _ cut) (not_left (is_given (take at fds) world.own name) _ cut)
    go false = none

wrote_none : (name : Name) (fds : List ℕ) (at : ℕ) (bytes : Bytes) (said : Answer (Unit {0})) (world : World) → is_given fds world.own name ≡ false → HoldsNone name (tee_wrote fds at bytes said) world
wrote_none name fds at bytes (yields done) world none = gives_none name fds at bytes world none
wrote_none name fds at bytes denies world none = refl
wrote_none name fds at bytes strays world none = refl

tee_none : (name : Name) (tee : Tee) (call : Call) (reply : Reply) (world : World) → TeeWaits tee call world → May call reply world → tee_opens_still tee name ≡ false → tee_holds tee world name ≡ false →
    HoldsNone name (tee_turn tee reply) (after_call call reply world)
tee_none name (tee_opens fds current later) call reply world (is, few, distinct, at) may ahead none =
    subst (λ (c : Call). HoldsNone name (tee_turn (tee_opens fds current later) reply) (after_call c reply world)) (sym is)
    (by_open (HoldsNone name) fds current later world reply few (λ e. refl)
    (λ fd e high new. tee_next_none name (fds ++ fd ∷ []) later (with_new fd current world) (tee_opened_given name fds current fd world at new (not_left (bytes_eq name current) (among later name) ahead) none))
    (subst (λ (c : Call). May c reply world) is may))
tee_none name (tee_reads fds) call reply world waits may ahead none =
    subst (λ (c : Call). HoldsNone name (tee_turn (tee_reads fds) reply) (after_call c reply world)) (sym waits.0) (tee_got_none name fds (bytes_in reply) world none)
tee_none name (tee_writes fds bytes) call reply world waits may ahead none =
    subst (λ (c : Call). HoldsNone name (tee_turn (tee_writes fds bytes) reply) (after_call c reply world)) (sym waits.0) (wrote_none name fds 0 bytes (done_in reply) (after_write 1 bytes (done_in reply) world) (write_given fds 1 bytes (done_in reply) world name ∙ none))
tee_none name (tee_gives fds at bytes) call reply world waits may ahead none =
    let fd = slice_index_or fds at 0 in
    let all =
    cut_given at fds world.own name
    ∙ or_from (is_given (take at fds) world.own name) (is_given (drop at fds) world.own name) (not_right (is_given (drop at fds) world.own name) _ none) (not_left (is_given (drop at fds) world.own name) _ none) in
    subst (λ (c : Call). HoldsNone name (tee_turn (tee_gives fds at bytes) reply) (after_call c reply world)) (sym waits.0)
    (wrote_none name fds (at + 1) bytes (done_in reply) (after_write fd bytes (done_in reply) world) (write_given fds fd bytes (done_in reply) world name ∙ all))

holds_none : (name : Name) (state : State) (call : Call) (reply : Reply) (world : World) → Waits state call world → May call reply world → still_opens state name ≡ false → holds state world name ≡ false →
    HoldsNone name (turn state reply) (after_call call reply world)
holds_none name (begins program arguments) call reply world waits may ahead none = program_none name program arguments (after_call call reply world)
holds_none name (echo_word later) call reply world waits may ahead none = echo_end_none name later (after_call call reply world)
holds_none name (echo_space later) call reply world waits may ahead none = echo_none name later (after_call call reply world)
holds_none name (opens filter current later) call reply world waits may ahead none =
    subst (λ (c : Call). HoldsNone name (turn (opens filter current later) reply) (after_call c reply world)) (sym waits)
    (opened_none name filter current later world reply (not_left (bytes_eq name current) (among later name) ahead) (subst (λ (c : Call). May c reply world) waits may))
holds_none name (works work source) call reply world waits may ahead none =
    step_none name (work_step work (name_of source) reply) (filter_of work) source (after_call call reply world) (source_after source call reply world name (own_call work (fd_of source) call waits.0) ∙ none)
holds_none name (closes filter later) call reply world waits may ahead none = closed_none name filter later (done_in reply) (after_call call reply world)
holds_none name (tees tee) call reply world waits may ahead none = tee_none name tee call reply world waits may ahead none
holds_none name told call reply world waits may ahead none = refl
holds_none name ended call reply world waits may ahead none = refl

-- only tee holds files to write, and it holds no others
pub written_held : (state : State) (world : World) (name : Name) → holds state world name ≡ false → holds_to_write state world name ≡ false
written_held (begins program arguments) world name none = refl
written_held (echo_word later) world name none = refl
written_held (echo_space later) world name none = refl
written_held (opens filter current later) world name none = refl
written_held (works work source) world name none = refl
written_held (closes filter later) world name none = refl
written_held (tees tee) world name none = none
written_held told world name none = refl
written_held ended world name none = refl

-- one that is no tee holds none to write, and becomes no tee
writes_none : (name : Name) (state : State) (call : Call) (reply : Reply) (world : World) → Waits state call world → May call reply world → still_writes state name ≡ false → holds_to_write state world name ≡ false →
    holds_to_write (turn state reply).next (after_call call reply world) name ≡ false
writes_none name state call reply world waits may ahead none =
    let after = after_call call reply world in
    turn_next (λ (s : State). holds_to_write s after name ≡ false)
    (record { ends = refl; tells = refl; word = λ later. refl; space = λ later. refl; ready = λ f n l. refl; work = λ w s. refl; close = λ f l. refl })
    (λ names. written_held (tee_opens_next [] names).next after name (tee_next_none name [] names after refl))
    state reply
    (λ tee e.
    let waits_tee = subst (λ (s : State). Waits s call world) e waits in
    let ahead_tee = subst (λ (s : State). still_writes s name ≡ false) e ahead in
    let none_tee = subst (λ (s : State). holds_to_write s world name ≡ false) e none in
    written_held (tee_turn tee reply).next after name (tee_none name tee call reply world waits_tee may ahead_tee none_tee))

pub depends_shrink : (state : State) (call : Call) (reply : Reply) (world : World) (name : Name) → Waits state call world → May call reply world → depends_on state world name ≡ false →
    depends_on (turn state reply).next (after_call call reply world) name ≡ false
depends_shrink state call reply world name waits may none =
    let ahead = not_left (still_opens state name) (holds state world name) none in
    or_from (still_opens (turn state reply).next name) (holds (turn state reply).next (after_call call reply world) name) (opens_shrink state reply name ahead)
    (holds_none name state call reply world waits may ahead (not_right (still_opens state name) (holds state world name) none))

pub changes_shrink : (state : State) (call : Call) (reply : Reply) (world : World) (name : Name) → Waits state call world → May call reply world → may_change state world name ≡ false →
    may_change (turn state reply).next (after_call call reply world) name ≡ false
changes_shrink state call reply world name waits may none =
    let ahead = not_left (still_writes state name) (holds_to_write state world name) none in
    or_from (still_writes (turn state reply).next name) (holds_to_write (turn state reply).next (after_call call reply world) name) (writes_shrink state reply name ahead)
    (writes_none name state call reply world waits may ahead (not_right (still_writes state name) (holds_to_write state world name) none))
