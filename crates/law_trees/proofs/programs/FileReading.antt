-- What a program reads of its files is less that it may still read of them; larger files are more to read.
use Rattle.std.proofs.Common.{◌≡◌, ◌∙◌, inl, inr, ℕ, zero, suc, ◌+◌, ◌-◌, ◌≤◌, ◌==◌, nat_lt, Bool, true, false, List, [], ◌∷◌, ◌++◌, length, drop, Option, Some, None, refl, sym, ap, subst, arith}
use Rattle.std.specs.Prelude.{if◌then◌else◌, slice_index_or}
use Rattle.std.specs.Str.{bytes_eq}
use Rattle.std.proofs.lemmas.Bool.{eq-eqb, or_left, or_right}
use Rattle.std.proofs.lemmas.List.{take_all, length-drop, length-append}
use Rattle.mem_files.specs.Name.{Name, Bytes}
use Rattle.mem_files.specs.Files.{FileMap, bytes_of}
use Rattle.prog_parts.specs.declared.program.Program.{Program}
use Rattle.prog_parts.specs.declared.program.Program.TheVariants.{Cat, Echo, Grep, Head, Tee as Tee', Wc}
use Rattle.prog_parts.specs.Head.{head_files, has_wrong_option, line_count}
use Rattle.prog_parts.specs.Program.{file_words}
use Rattle.prog_parts.specs.NameSets.{among}
use Rattle.user_calls.specs.Limits.{block_size}
use Rattle.user_calls.specs.declared.calls.Mode.TheVariants.{Input}
use Rattle.user_calls.specs.declared.calls.Call.{Call}
use Rattle.user_calls.specs.declared.calls.Call.TheVariants.{Read, Write, OpenFile, Close}
use Rattle.user_calls.specs.declared.calls.Reply.{Reply}
use Rattle.user_calls.specs.declared.calls.Reply.TheVariants.{Done, Bytes as Bytes', Refused}
use Rattle.meaning_model.specs.Inputs.{found}
use Rattle.user_progs.specs.State.{Filter, copying, heading, counting, searching, Source, standard, file, Work, Tee, tee_opens, tee_reads, tee_writes, tee_gives, State, begins, echo_word, echo_space, opens, works, closes, tees, told, ended}
use Rattle.user_progs.specs.Turn.{Answer, yields, denies, strays, Step, reads, writes, finishes, fails, quits, bytes_in, fd_in, done_in, block, turn, turn_by, first_step, work_step, filter_of, name_of, fd_of, opens_next, begins_filter, begins_head, begins_program, echo_next, echo_end, tee_waits, tee_opens_next, tee_cannot_open, tee_opened, tee_got, tee_wrote, tee_turn}
use Rattle.tree_model.specs.Alone.{OwnFile, World, is_to_read, held, moved_on, left_of_file, left_at, Takes, MayOpen, May, done_if, after_read, after_call}
use Rattle.tree_model.specs.Waits.{IsOpen, WorkWaits, TeeWaits, Waits}
use Rattle.tree_model.specs.Frame.{is_held, depends_on}
use Rattle.tree_model.specs.FilesAhead.{Sizes, sizes, left_in_file, all_sizes, source_ahead, files_ahead, read_of_file, from_files}
use Rattle.law_trees.proofs.programs.Keeps.{heard_read, found_short}
use Rattle.law_trees.proofs.programs.Teeing.{new_file}
use Rattle.law_trees.proofs.programs.Waiting.{IsOwnCall, own_call}
use Rattle.law_trees.proofs.programs.Framing.{itself}
use Rattle.law_trees.proofs.programs.Reading.{opened_input}
use Rattle.law_trees.proofs.programs.Taking.{read_files}

-- where it goes on, of which so many bytes were read
step_ahead : (step : Step) (filter : Filter) (source : Source) (own after : List OwnFile) (L : Sizes) (count : ℕ) → source_ahead source after L + count ≤ source_ahead source own L →
    files_ahead (turn_by step filter source).next after L + count ≤ source_ahead source own L
step_ahead (reads most work) filter source own after L count few = few
step_ahead (writes bytes work) filter source own after L count few = few
step_ahead finishes filter standard own after L count few = few
step_ahead finishes filter (file fd name later) own after L count few = omega (arith, few)
step_ahead (fails message) filter source own after L count few = omega (arith, few)
step_ahead quits filter source own after L count few = omega (arith, few)

next_ahead : (filter : Filter) (names : List Name) (own : List OwnFile) (L : Sizes) → files_ahead (opens_next filter names).next own L ≤ all_sizes names L
next_ahead filter [] own L = omega arith
next_ahead filter (name ∷ later) own L = omega arith

filter_ahead : (filter : Filter) (names : List Name) (own : List OwnFile) (L : Sizes) → files_ahead (begins_filter filter names).next own L ≤ all_sizes names L
filter_ahead filter [] own L = omega (arith, step_ahead (first_step filter) filter standard own own L 0 (omega arith))
filter_ahead filter (name ∷ later) own L = omega arith

head_ahead : (wrong : Bool) (arguments : List Bytes) (own : List OwnFile) (L : Sizes) → files_ahead (begins_head wrong arguments).next own L ≤ all_sizes (head_files arguments) L
head_ahead true arguments own L = omega arith
head_ahead false arguments own L = filter_ahead (heading (line_count arguments)) (head_files arguments) own L

echo_none : (arguments : List Bytes) (own : List OwnFile) (L : Sizes) → files_ahead (echo_next arguments).next own L ≤ 0
echo_none [] own L = omega arith
echo_none (argument ∷ later) own L = omega arith

echo_end_none : (later : List Bytes) (own : List OwnFile) (L : Sizes) → files_ahead (echo_end later).next own L ≤ 0
echo_end_none [] own L = omega arith
echo_end_none (argument ∷ later) own L = omega arith

tee_next_none : (fds : List ℕ) (names : List Name) (own : List OwnFile) (L : Sizes) → files_ahead (tee_opens_next fds names).next own L ≤ 0
tee_next_none fds [] own L = omega arith
tee_next_none fds (name ∷ later) own L = omega arith

program_ahead : (program : Program) (arguments : List Bytes) (own : List OwnFile) (L : Sizes) → files_ahead (begins_program program arguments).next own L ≤ all_sizes (file_words program arguments) L
program_ahead Cat arguments own L = filter_ahead copying arguments own L
program_ahead Echo arguments own L = echo_none arguments own L
program_ahead Grep [] own L = omega arith
program_ahead Grep (pattern ∷ names) own L = filter_ahead (searching pattern) names own L
program_ahead Head arguments own L = head_ahead (has_wrong_option arguments) arguments own L
program_ahead Tee' arguments own L = omega (arith, tee_next_none [] arguments own L)
program_ahead Wc arguments own L = filter_ahead counting arguments own L

-- tee reads no files
wrote_none : (fds : List ℕ) (at : ℕ) (bytes : Bytes) (said : Answer (Unit {0})) (own : List OwnFile) (L : Sizes) → files_ahead (tee_wrote fds at bytes said).next own L ≤ 0
wrote_none fds at bytes (yields done) own L = go (nat_lt at (length fds))
  where
    go : (more : Bool) → files_ahead (if more then record { call = Write (slice_index_or fds at 0) bytes; next = tees (tee_gives fds at bytes) } else tee_waits fds).next own L ≤ 0
    go true = omega arith
    go false = omega arith
wrote_none fds at bytes denies own L = omega arith
wrote_none fds at bytes strays own L = omega arith

tee_none : (tee : Tee) (reply : Reply) (own : List OwnFile) (L : Sizes) → files_ahead (tee_turn tee reply).next own L ≤ 0
tee_none (tee_opens fds name later) reply own L = go (fd_in reply)
  where
    in_room : (fd : ℕ) (room : Bool) → files_ahead (if room then tee_opens_next (fds ++ fd ∷ []) later else tee_cannot_open name).next own L ≤ 0
    in_room fd true = tee_next_none (fds ++ fd ∷ []) later own L
    in_room fd false = omega arith

    go : (granted : Answer ℕ) → files_ahead (tee_opened fds name later granted).next own L ≤ 0
    go denies = omega arith
    go strays = omega arith
    go (yields fd) = in_room fd (nat_lt (length fds) 16)
tee_none (tee_reads fds) reply own L = go (bytes_in reply)
  where
    go : (got : Answer Bytes) → files_ahead (tee_got fds got).next own L ≤ 0
    go (yields []) = omega arith
    go (yields (byte ∷ bytes)) = omega arith
    go denies = omega arith
    go strays = omega arith
tee_none (tee_writes fds bytes) reply own L = wrote_none fds 0 bytes (done_in reply) own L
tee_none (tee_gives fds at bytes) reply own L = wrote_none fds (at + 1) bytes (done_in reply) own L

-- a call that is refused
pub refused_ahead : (state : State) (own : List OwnFile) (L : Sizes) → files_ahead (turn state Refused).next own L ≤ files_ahead state own L
refused_ahead (begins program arguments) own L = program_ahead program arguments own L
refused_ahead (echo_word later) own L = echo_end_none later own L
refused_ahead (echo_space later) own L = echo_none later own L
refused_ahead (opens filter name later) own L = omega arith
refused_ahead (works work source) own L = omega (arith, step_ahead (work_step work (name_of source) Refused) (filter_of work) source own own L 0 (omega arith))
refused_ahead (closes filter later) own L = omega arith
refused_ahead (tees tee) own L = tee_none tee Refused own L
refused_ahead told own L = omega arith
refused_ahead ended own L = omega arith

-- what this reply makes of what may still be read
abbrev Less : State → Call → Reply → World → Type 0
Less state call reply world =
    from_files call reply + files_ahead (turn state reply).next (after_call call reply world).own (sizes (after_call call reply world).files) ≤ files_ahead state world.own (sizes world.files)

-- a read of a file
moved_ahead : (own : List OwnFile) (fd count : ℕ) (F : FileMap) → count ≤ length (bytes_of (left_of_file (held own fd) F)) → left_in_file (held (moved_on own fd count) fd) (sizes F) + count ≤ left_in_file (held own fd) (sizes F)
moved_ahead [] fd count F few = omega (arith, few)
moved_ahead (f ∷ later) fd count F few = go (f.fd == fd) refl few (moved_ahead later fd count F)
  where
    here : (can : Bool) → count ≤ length (bytes_of (if can then Some (drop f.at (bytes_of (F f.name))) else None)) → (sizes F f.name - (f.at + count)) + count ≤ sizes F f.name - f.at
    here true few = omega (arith, few, length-drop f.at (bytes_of (F f.name)))
    here false few = omega (arith, few)

    go : (is : Bool) → (f.fd == fd) ≡ is → count ≤ length (bytes_of (left_of_file (if is then Some f else held later fd) F)) →
        (count ≤ length (bytes_of (left_of_file (held later fd) F)) → left_in_file (held (moved_on later fd count) fd) (sizes F) + count ≤ left_in_file (held later fd) (sizes F)) →
        left_in_file (held (if is then record f { at = f.at + count } ∷ later else f ∷ moved_on later fd count) fd) (sizes F) + count ≤ left_in_file (if is then Some f else held later fd) (sizes F)
    go true e few ih =
        subst (λ (t : Bool). left_in_file (if t then Some (record f { at = f.at + count }) else held later fd) (sizes F) + count ≤ left_in_file (Some f) (sizes F)) (sym e) (here (is_to_read f.mode) few)
    go false e few ih =
        subst (λ (t : Bool). left_in_file (if t then Some f else held (moved_on later fd count) fd) (sizes F) + count ≤ left_in_file (held later fd) (sizes F)) (sym e) (ih few)

taken_few : (most : ℕ) (left bytes : Bytes) → Takes most left bytes → length bytes ≤ length left
taken_few most left bytes is = omega (arith, ap length is.prefix ∙ length-append bytes is.more)

source_less : (source : Source) (most : ℕ) (bytes : Bytes) (world : World) → IsOpen source world → Takes most (left_at (fd_of source) world) bytes →
    source_ahead source (after_read (fd_of source) (yields bytes) world).own (sizes world.files) + read_of_file (fd_of source) (Bytes' bytes) ≤ source_ahead source world.own (sizes world.files)
source_less standard most bytes world ready is = omega arith
source_less (file zero name later) most bytes world ready is = absurd (omega (arith, ready.0))
source_less (file (suc fd) name later) most bytes world ready is =
    omega (arith, moved_ahead world.own (suc fd) (length bytes) world.files (taken_few most (left_at (suc fd) world) bytes is))

work_less : (work : Work) (source : Source) (call : Call) (reply : Reply) (world : World) → WorkWaits work (fd_of source) call → IsOpen source world → May call reply world → Less (works work source) call reply world
work_less work source call reply world waits ready may = go (own_call work (fd_of source) call waits)
  where
    by_read : (most : ℕ) → call ≡ Read (fd_of source) most → Less (works work source) call reply world
    by_read most is =
        let heard = heard_read source call reply world most is ready may in
        let bytes = heard.0 in
        let after = after_read (fd_of source) (yields bytes) world in
        let step = work_step work (name_of source) (Bytes' bytes) in
        let here = step_ahead step (filter_of work) source world.own after.own (sizes world.files) (read_of_file (fd_of source) (Bytes' bytes)) (source_less source most bytes world ready heard.2) in
        let now : read_of_file (fd_of source) (Bytes' bytes) + files_ahead (turn_by step (filter_of work) source).next after.own (sizes after.files) ≤ source_ahead source world.own (sizes world.files) =
        subst (λ (F : FileMap). read_of_file (fd_of source) (Bytes' bytes) + files_ahead (turn_by step (filter_of work) source).next after.own (sizes F) ≤ source_ahead source world.own (sizes world.files)) (sym (read_files (fd_of source) bytes world))
        (omega (arith, here)) in
        subst (λ (c : Call). Less (works work source) c reply world) (sym is) (subst (λ (r : Reply). Less (works work source) (Read (fd_of source) most) r world) (sym heard.1) now)

    by_write : (bytes : Bytes) → call ≡ Write 1 bytes → Less (works work source) call reply world
    by_write bytes is =
        let done : reply ≡ Done = subst (λ (c : Call). May c reply world) is may in
        let here = step_ahead (work_step work (name_of source) Done) (filter_of work) source world.own world.own (sizes world.files) 0 (omega arith) in
        subst (λ (c : Call). Less (works work source) c reply world) (sym is) (subst (λ (r : Reply). Less (works work source) (Write 1 bytes) r world) (sym done) (omega (arith, here)))

    go : IsOwnCall (fd_of source) call → Less (works work source) call reply world
    go (inl (most, is)) = by_read most is
    go (inr (bytes, is)) = by_write bytes is

-- an open
opened_less : (filter : Filter) (name : Name) (later : List Name) (world : World) (reply : Reply) → May (OpenFile (block name) Input) reply world → Less (opens filter name later) (OpenFile (block name) Input) reply world
opened_less filter name later world reply may = go (found world.files (block name)) refl may
  where
    F : FileMap
    F = world.files

    go : (o : Option Bytes) → found F (block name) ≡ o → MayOpen o reply world → Less (opens filter name later) (OpenFile (block name) Input) reply world
    go None e is = subst (λ (r : Reply). Less (opens filter name later) (OpenFile (block name) Input) r world) (sym is) (omega arith)
    go (Some bytes) e (fd, is, new) =
        let whole : block name ≡ name = take_all block_size name (omega (arith, found_short F name bytes e)) in
        let opened = new_file fd (block name) Input ∷ world.own in
        let size : left_in_file (held opened fd) (sizes F) ≡ sizes F name - 0 =
        ap (λ (t : Bool). left_in_file (if t then Some (new_file fd (block name) Input) else held world.own fd) (sizes F)) (eq-eqb fd fd refl) ∙ ap (λ (n : Name). sizes F n - 0) whole in
        let here = step_ahead (first_step filter) filter (file fd name later) opened opened (sizes F) 0 (omega arith) in
        subst (λ (r : Reply). Less (opens filter name later) (OpenFile (block name) Input) r world) (sym is)
        (subst (λ (w : World). 0 + files_ahead (turn_by (first_step filter) filter (file fd name later)).next w.own (sizes w.files) ≤ sizes F name + all_sizes later (sizes F)) (sym (opened_input fd (block name) world))
        (omega (arith, here, size)))

-- any other call reads no file

tee_file : (tee : Tee) (call : Call) (reply : Reply) (world : World) → TeeWaits tee call world → from_files call reply ≡ 0
tee_file (tee_opens fds name later) call reply world waits = ap (λ (c : Call). from_files c reply) waits.0
tee_file (tee_reads fds) call reply world waits = ap (λ (c : Call). from_files c reply) waits.0
tee_file (tee_writes fds bytes) call reply world waits = ap (λ (c : Call). from_files c reply) waits.0
tee_file (tee_gives fds at bytes) call reply world waits = ap (λ (c : Call). from_files c reply) waits.0

pub call_ahead : (state : State) (call : Call) (reply : Reply) (world : World) → Waits state call world → May call reply world → Less state call reply world
call_ahead (begins program arguments) call reply world waits may =
    subst (λ (c : Call). Less (begins program arguments) c reply world) (sym waits.0) (omega (arith, program_ahead program arguments world.own (sizes world.files)))
call_ahead (echo_word later) call reply world ((bytes, is), short) may =
    let after = after_call call reply world in
    omega (arith, ap (λ (c : Call). from_files c reply) is, echo_end_none later after.own (sizes after.files))
call_ahead (echo_space later) call reply world ((bytes, is), short) may =
    let after = after_call call reply world in
    omega (arith, ap (λ (c : Call). from_files c reply) is, echo_none later after.own (sizes after.files))
call_ahead (opens filter name later) call reply world waits may =
    subst (λ (c : Call). Less (opens filter name later) c reply world) (sym waits) (opened_less filter name later world reply (subst (λ (c : Call). May c reply world) waits may))
call_ahead (works work source) call reply world waits may = work_less work source call reply world waits.0 waits.1 may
call_ahead (closes filter later) call reply world (fd, is, held_so) may =
    let done : reply ≡ Done = subst (λ (c : Call). May c reply world) is may ∙ ap done_if held_so in
    let after = after_call (Close fd) Done world in
    subst (λ (c : Call). Less (closes filter later) c reply world) (sym is)
    (subst (λ (r : Reply). Less (closes filter later) (Close fd) r world) (sym done) (omega (arith, next_ahead filter later after.own (sizes world.files))))
call_ahead (tees tee) call reply world waits may =
    let after = after_call call reply world in
    omega (arith, tee_file tee call reply world waits, tee_none tee reply after.own (sizes after.files))
call_ahead told call reply world (fd, some, low, (bytes, is)) may = omega (arith, ap (λ (c : Call). from_files c reply) is)
call_ahead ended call reply world waits may = absurd (subst (λ (c : Call). May c reply world) waits may)

-- larger files

all_more : (later : List Name) (L M : Sizes) → ((f : Name) → among later f ≡ true → L f ≤ M f) → all_sizes later L ≤ all_sizes later M
all_more [] L M more = omega arith
all_more (name ∷ later) L M more =
    omega (arith, more name (or_left (bytes_eq name name) (among later name) (itself name)), all_more later L M (λ f e. more f (or_right (bytes_eq f name) (among later f) e)))

left_more : (o : Option OwnFile) (L M : Sizes) → ((f : Name) → is_held o f ≡ true → L f ≤ M f) → left_in_file o L ≤ left_in_file o M
left_more None L M more = omega arith
left_more (Some own) L M more = omega (arith, more own.name (itself own.name))

words_more : (program : Program) (arguments : List Bytes) (world : World) (L M : Sizes) → ((f : Name) → depends_on (begins program arguments) world f ≡ true → L f ≤ M f) →
    all_sizes (file_words program arguments) L ≤ all_sizes (file_words program arguments) M
words_more Cat arguments world L M more = all_more arguments L M (λ f e. more f (or_left _ false (or_left _ false e)))
words_more Echo arguments world L M more = omega arith
words_more Grep arguments world L M more = all_more (file_words Grep arguments) L M (λ f e. more f (or_left _ false (or_left _ false e)))
words_more Head arguments world L M more = all_more (head_files arguments) L M (λ f e. more f (or_left _ false (or_left _ false e)))
words_more Tee' arguments world L M more = all_more arguments L M (λ f e. more f (or_left (among arguments f) false e))
words_more Wc arguments world L M more = all_more arguments L M (λ f e. more f (or_left _ false (or_left _ false e)))

pub ahead_more : (state : State) (world : World) (L M : Sizes) → ((f : Name) → depends_on state world f ≡ true → L f ≤ M f) → files_ahead state world.own L ≤ files_ahead state world.own M
ahead_more (begins program arguments) world L M more = words_more program arguments world L M more
ahead_more (echo_word later) world L M more = omega arith
ahead_more (echo_space later) world L M more = omega arith
ahead_more (opens filter name later) world L M more = all_more (name ∷ later) L M (λ f e. more f (or_left (among (name ∷ later) f) false e))
ahead_more (works work standard) world L M more = omega arith
ahead_more (works work (file fd name later)) world L M more =
    omega (
      arith,
      all_more later L M (λ f e. more f (or_left (among later f) (is_held (held world.own fd) f) e)),
      left_more (held world.own fd) L M (λ f e. more f (or_right (among later f) (is_held (held world.own fd) f) e)),
    )
ahead_more (closes filter later) world L M more = all_more later L M (λ f e. more f (or_left (among later f) false e))
ahead_more (tees tee) world L M more = omega arith
ahead_more told world L M more = omega arith
ahead_more ended world L M more = omega arith
