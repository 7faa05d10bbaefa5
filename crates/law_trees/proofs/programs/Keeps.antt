-- Each call of a program that runs alone keeps what it still does: before the reply, that is what the next call
-- writes and what follows it.
use Rattle.std.proofs.Common.{◌≡◌, ◌∙◌, ℕ, zero, suc, ◌+◌, ◌-◌, ◌<◌, ◌≤◌, ◌==◌, Bool, true, false, List, [], ◌∷◌, ◌++◌, length, take, drop, drop-drop, append_assoc, take-append-drop, Option, Some, None, refl, sym, ap, subst, arith, nat_le}
use Rattle.std.specs.Prelude.{if◌then◌else◌, slice_index_or}
use Rattle.std.proofs.lemmas.Bool.{eq-eqb}
use Rattle.std.proofs.lemmas.List.{take_all, length-take}
use Rattle.std.proofs.lemmas.Bool.Decides.{nat_tests}
use Rattle.std.proofs.Math.Seq.{drop-nil}
use Rattle.mem_files.specs.Name.{Name, Bytes, is_openable}
use Rattle.mem_files.specs.Files.{FileMap, bytes_of}
use Rattle.prog_parts.specs.declared.program.Program.{Program}
use Rattle.prog_parts.specs.declared.program.Program.TheVariants.{Cat, Echo, Grep, Head, Tee as Tee', Wc}
use Rattle.prog_parts.specs.Head.{head_files, has_wrong_option, first_lines, after_lines, line_count}
use Rattle.user_calls.specs.Limits.{block_size}
use Rattle.user_calls.specs.declared.calls.Mode.TheVariants.{Input}
use Rattle.user_calls.specs.declared.calls.Call.{Call}
use Rattle.user_calls.specs.declared.calls.Call.TheVariants.{Exec, Read, Write, OpenFile, Close}
use Rattle.user_calls.specs.declared.calls.Reply.{Reply}
use Rattle.user_calls.specs.declared.calls.Reply.TheVariants.{Done, Bytes as Bytes', Fd}
use Rattle.meaning_model.specs.Value.{Value, fixed, nothing}
use Rattle.meaning_model.specs.Inputs.{found, of_found, of_files, filter_value}
use Rattle.meaning_model.specs.Programs.{echo_out, program_value}
use Rattle.user_progs.specs.State.{Filter, copying, heading, counting, searching, Source, standard, file, Work, cat_reads, cat_writes, head_reads, head_writes, wc_reads, wc_writes, grep_reads, grep_writes, Tee, tee_opens, tee_reads, tee_writes, tee_gives, State, begins, echo_word, echo_space, opens, works, closes, tees, told, ended}
use Rattle.user_progs.specs.Turn.{Turn, yields, Step, reads, writes, finishes, fails, quits, turn, turn_by, first_step, work_step, filter_of, fd_of, block, opens_next, begins_filter, begins_head, begins_program, name_of, echo_next, echo_end}
use Rattle.tree_model.specs.Alone.{OwnFile, World, is_to_read, can_open, held, moved_on, left_of_file, readable, left_at, Takes, MayRead, MayOpen, may_write, done_if, May, opened_files, after_read, after_call, to_out}
use Rattle.tree_model.specs.Still.{of_input, work_out, work_rest, work_still, echo_rest, still, after_bytes, left_of}
use Rattle.tree_model.specs.Waits.{AreShort, BeginsShort, IsWrite, IsOpenToRead, IsOpen, WorkWaits, TeeWaits, Waits}
use Rattle.user_progs.proofs.Blocks.{too_long}
use Rattle.tree_model.specs.Fits.{AreWithin, outputs, Fits}
use Rattle.law_trees.proofs.programs.Fitting.{gives_done}
use Rattle.law_trees.proofs.programs.Teeing.{tee_next_kept, tee_open_kept, tee_read_kept, gives_next_kept, gave}
use Rattle.law_trees.proofs.programs.Work.{Kept, GoesOn, step_out, step_rest, begins_kept, cat_kept, head_kept, head_begins}
use Rattle.tree_model.specs.Reads.{unread}
use Rattle.law_trees.proofs.programs.Counting.{wc_kept}
use Rattle.law_trees.proofs.programs.Search.{buffer_kept, grep_kept}

-- values are equal where what was written and what is left are
same_value : (out other rest left : Bytes) (F : FileMap) → out ≡ other → rest ≡ left → fixed out rest F ≡ fixed other left F
same_value out other rest left F a b = λ i. fixed (a i) (b i) F

-- a step on standard input
on_standard : (filter : Filter) (step : Step) (world : World) → GoesOn filter step →
    fixed (step_out step [] world.input) (step_rest step world.input) world.files ≡ left_of (turn_by step filter standard) 0 world
on_standard filter (reads most work) world on = refl
on_standard filter (writes bytes work) world on = refl
on_standard filter finishes world on = refl
on_standard filter (fails message) world on = absurd on
on_standard filter quits world on = absurd on

-- a step on a file
on_file : (filter : Filter) (step : Step) (fd : ℕ) (name : Name) (later : List Name) (world : World) → GoesOn filter step →
    fixed (step_out step name (left_at fd world) ++ of_files (of_input filter) later world.files) world.input world.files ≡ left_of (turn_by step filter (file fd name later)) 0 world
on_file filter (reads most work) fd name later world on =
    ap (λ (f : Filter). fixed (work_out work name (left_at fd world) ++ of_files (of_input f) later world.files) world.input world.files) (sym on)
on_file filter (writes bytes work) fd name later world on =
    ap (λ (f : Filter). fixed ((bytes ++ work_out work name (left_at fd world)) ++ of_files (of_input f) later world.files) world.input world.files) (sym on)
    ∙ ap (λ (o : Bytes). fixed o world.input world.files) (append_assoc bytes (work_out work name (left_at fd world)) (of_files (of_input (filter_of work)) later world.files))
on_file filter finishes fd name later world on = refl
on_file filter (fails message) fd name later world on = absurd on
on_file filter quits fd name later world on = absurd on

-- a read of a file of its own takes the bytes from it
pub moved_left : (own : List OwnFile) (fd count : ℕ) (F : FileMap) → bytes_of (left_of_file (held (moved_on own fd count) fd) F) ≡ drop count (bytes_of (left_of_file (held own fd) F))
moved_left [] fd count F = sym (drop-nil count)
moved_left (f ∷ later) fd count F = go (f.fd == fd) refl (moved_left later fd count F)
  where
    here : (can : Bool) → bytes_of (if can then Some (drop (f.at + count) (bytes_of (F f.name))) else None) ≡ drop count (bytes_of (if can then Some (drop f.at (bytes_of (F f.name))) else None))
    here true = sym (drop-drop count f.at (bytes_of (F f.name)))
    here false = sym (drop-nil count)

    go : (is : Bool) → (f.fd == fd) ≡ is → bytes_of (left_of_file (held (moved_on later fd count) fd) F) ≡ drop count (bytes_of (left_of_file (held later fd) F)) →
        bytes_of (left_of_file (held (if is then record f { at = f.at + count } ∷ later else f ∷ moved_on later fd count) fd) F) ≡ drop count (bytes_of (left_of_file (if is then Some f else held later fd) F))
    go true e ih =
        ap (λ (t : Bool). bytes_of (left_of_file (if t then Some (record f { at = f.at + count }) else held later fd) F)) e
        ∙ here (is_to_read f.mode)
    go false e ih = ap (λ (t : Bool). bytes_of (left_of_file (if t then Some f else held (moved_on later fd count) fd) F)) e ∙ ih

-- an input that is open can be read
can_read : (source : Source) (world : World) → IsOpen source world → readable (fd_of source) world ≡ Some (left_at (fd_of source) world)
can_read standard world ready = refl
can_read (file zero name later) world ready = absurd (omega (arith, ready.0))
can_read (file (suc fd) name later) world ready = go (held world.own (suc fd)) ready.2
  where
    go : (h : Option OwnFile) → IsOpenToRead name h → left_of_file h world.files ≡ Some (bytes_of (left_of_file h world.files))
    go None is = absurd is
    go (Some f) is =
        let bytes = drop f.at (bytes_of (world.files f.name)) in
        ap (λ (t : Bool). if t then Some bytes else None) is.1 ∙ sym (ap (λ (t : Bool). Some (bytes_of (if t then Some bytes else None))) is.1)

-- what a read of it is answered
pub heard_read : (source : Source) (call : Call) (reply : Reply) (world : World) (most : ℕ) → call ≡ Read (fd_of source) most → IsOpen source world → May call reply world →
    (bytes : Bytes) × (reply ≡ Bytes' bytes) × Takes most (left_at (fd_of source) world) bytes
heard_read source call reply world most is ready may =
    subst (λ (o : Option Bytes). MayRead most o reply) (can_read source world ready) (subst (λ (c : Call). May c reply world) is may)

-- a read
read_kept : (work : Work) (step : Step) (source : Source) (world : World) (bytes : Bytes) → IsOpen source world →
    Kept (filter_of work) step (name_of source) (work_out work (name_of source) (left_at (fd_of source) world)) (work_rest work (left_at (fd_of source) world)) (drop (length bytes) (left_at (fd_of source) world)) →
    work_still work source world ≡ left_of (turn_by step (filter_of work) source) 0 (after_read (fd_of source) (yields bytes) world)
read_kept work step standard world bytes ready kept =
    same_value _ _ _ _ world.files kept.out kept.rest
    ∙ on_standard (filter_of work) step (record world { input = drop (length bytes) world.input }) kept.on
read_kept work step (file zero name later) world bytes ready kept = absurd (omega (arith, ready.0))
read_kept work step (file (suc fd) name later) world bytes ready kept =
    same_value _ _ world.input world.input world.files
    (ap (λ (o : Bytes). o ++ of_files (of_input (filter_of work)) later world.files) (kept.out ∙ ap (λ (l : Bytes). step_out step name l) (sym (moved_left world.own (suc fd) (length bytes) world.files))))
    refl
    ∙ on_file (filter_of work) step (suc fd) name later (record world { own = moved_on world.own (suc fd) (length bytes) }) kept.on

-- a write
write_kept : (work : Work) (step : Step) (source : Source) (world : World) →
    Kept (filter_of work) step (name_of source) (work_out work (name_of source) (left_at (fd_of source) world)) (work_rest work (left_at (fd_of source) world)) (left_at (fd_of source) world) →
    work_still work source world ≡ left_of (turn_by step (filter_of work) source) 0 world
write_kept work step standard world kept =
    same_value _ _ _ _ world.files kept.out kept.rest ∙ on_standard (filter_of work) step world kept.on
write_kept work step (file fd name later) world kept =
    same_value _ _ world.input world.input world.files
    (ap (λ (o : Bytes). o ++ of_files (of_input (filter_of work)) later world.files) kept.out)
    refl
    ∙ on_file (filter_of work) step fd name later world kept.on

none_found : (F : FileMap) (name : Name) → is_openable name ≡ false → found F name ≡ None
none_found F name e = ap (λ (t : Bool). if t then F name else None) e

pub found_block : (F : FileMap) (name : Name) → found F (block name) ≡ found F name
found_block F name = go (nat_le (length name) block_size) refl
  where
    go : (fits : Bool) → nat_le (length name) block_size ≡ fits → found F (block name) ≡ found F name
    go true e = let few : length name ≤ block_size = grind (arith, nat_tests) in ap (λ (n : Name). found F n) (take_all block_size name few)
    go false e =
        let many : block_size < length name = grind (arith, nat_tests) in
        none_found F (block name) (too_long (block name) (omega (arith, length-take block_size name)))
        ∙ sym (none_found F name (too_long name (omega (arith, many))))

-- a file that is found has a short name
pub found_short : (F : FileMap) (name : Name) (bytes : Bytes) → found F (block name) ≡ Some bytes → length name ≤ 14
found_short F name bytes e = go (nat_le (length name) 14) refl
  where
    go : (short : Bool) → nat_le (length name) 14 ≡ short → length name ≤ 14
    go true is = grind (arith, nat_tests)
    go false is =
        let long : 14 < length name = grind (arith, nat_tests) in
        let none : Some bytes ≡ None = sym e ∙ found_block F name ∙ none_found F name (too_long name long) in
        cc

pub open_changes_nothing : (o : Option Bytes) (name : Name) (F : FileMap) → opened_files o name Input F ≡ F
open_changes_nothing None name F = refl
open_changes_nothing (Some bytes) name F = refl

-- a file that is found has these bytes
pub found_is : (F : FileMap) (name : Name) (bytes : Bytes) → found F name ≡ Some bytes → F name ≡ Some bytes
found_is F name bytes = go (is_openable name)
  where
    go : (can : Bool) → (if can then F name else None) ≡ Some bytes → F name ≡ Some bytes
    go true e = e
    go false e = cc

-- an open that was granted
granted_kept : (filter : Filter) (name : Name) (later : List Name) (world : World) (bytes : Bytes) (fd : ℕ) → found world.files (block name) ≡ Some bytes → 2 < fd →
    still (opens filter name later) world ≡ left_of (turn_by (first_step filter) filter (file fd name later)) 0 (after_call (OpenFile (block name) Input) (Fd fd) world)
granted_kept filter name later world bytes zero e apart = absurd (omega (arith, apart))
granted_kept filter name later world bytes (suc fd) e apart =
    same_value _ _ world.input world.input F
    (ap (λ (o : Option Bytes). of_found o (of_input filter name) (of_files (of_input filter) later F)) (sym (found_block F name) ∙ e)
    ∙ ap (λ (o : Bytes). o ++ of_files (of_input filter) later F) (kept.out ∙ ap (λ (l : Bytes). step_out (first_step filter) name l) (sym left)))
    refl
    ∙ on_file filter (first_step filter) (suc fd) name later after kept.on
    ∙ ap (λ (G : FileMap). left_of (turn_by (first_step filter) filter (file (suc fd) name later)) 0 (record after { files = G })) (sym (open_changes_nothing (can_open (block name) Input F) (block name) F))
  where
    F : FileMap
    F = world.files

    new : OwnFile
    new = record { fd = suc fd; name = block name; mode = Input; at = 0 }

    after : World
    after = record world { own = new ∷ world.own }

    kept : Kept filter (first_step filter) name (of_input filter name bytes) (unread filter bytes) bytes
    kept = begins_kept filter name bytes

    left : left_at (suc fd) after ≡ bytes
    left =
        ap (λ (t : Bool). bytes_of (left_of_file (if t then Some new else held world.own (suc fd)) F)) (eq-eqb (suc fd) (suc fd) refl)
        ∙ ap bytes_of (found_is F (block name) bytes e)

-- an open
open_kept : (filter : Filter) (name : Name) (later : List Name) (world : World) (reply : Reply) → May (OpenFile (block name) Input) reply world →
    still (opens filter name later) world ≡ left_of (turn (opens filter name later) reply) 0 (after_call (OpenFile (block name) Input) reply world)
open_kept filter name later world reply may = go (found world.files (block name)) refl may
  where
    F : FileMap
    F = world.files

    go : (o : Option Bytes) → found F (block name) ≡ o → MayOpen o reply world →
        still (opens filter name later) world ≡ left_of (turn (opens filter name later) reply) 0 (after_call (OpenFile (block name) Input) reply world)
    go None e is =
        same_value _ _ world.input world.input F (ap (λ (o : Option Bytes). of_found o (of_input filter name) (of_files (of_input filter) later F)) (sym (found_block F name) ∙ e)) refl
        ∙ ap (λ (r : Reply). left_of (turn (opens filter name later) r) 0 (after_call (OpenFile (block name) Input) r world)) (sym is)
    go (Some bytes) e (fd, is, new) =
        granted_kept filter name later world bytes fd e new.0
        ∙ ap (λ (r : Reply). left_of (turn (opens filter name later) r) 0 (after_call (OpenFile (block name) Input) r world)) (sym is)

-- a program that begins with these file words
filter_begins : (filter : Filter) (names : List Name) (world : World) →
    filter_value (of_input filter) (unread filter) names world.input world.files ≡ left_of (begins_filter filter names) 0 world
filter_begins filter [] world =
    let kept = begins_kept filter [] world.input in
    same_value _ _ _ _ world.files kept.out kept.rest ∙ on_standard filter (first_step filter) world kept.on
filter_begins filter (name ∷ names) world = refl

head_begins_kept : (arguments : List Bytes) (world : World) → program_value (Some Head) arguments world.input world.files ≡ left_of (begins_head (has_wrong_option arguments) arguments) 0 world
head_begins_kept arguments world = go (has_wrong_option arguments)
  where
    go : (wrong : Bool) →
        (if wrong then nothing world.input world.files
        else filter_value (λ name. first_lines (line_count arguments)) (after_lines (line_count arguments)) (head_files arguments) world.input world.files)
        ≡ left_of (begins_head wrong arguments) 0 world
    go true = refl
    go false = filter_begins (heading (line_count arguments)) (head_files arguments) world

echo_step : (argument : Bytes) (later : List Bytes) → echo_out (argument ∷ later) ≡ argument ++ echo_rest later
echo_step argument [] = refl
echo_step argument (next ∷ later) = refl

-- echo, before it writes the first of these
echo_kept : (arguments : List Bytes) (world : World) → AreShort arguments → fixed (echo_out arguments) world.input world.files ≡ left_of (echo_next arguments) 0 world
echo_kept [] world short = refl
echo_kept (argument ∷ later) world short =
    same_value _ _ world.input world.input world.files
    (echo_step argument later ∙ ap (λ (a : Bytes). a ++ echo_rest later) (sym (take_all block_size argument short.0)))
    refl

echo_end_kept : (later : List Bytes) (world : World) → fixed (echo_rest later) world.input world.files ≡ left_of (echo_end later) 0 world
echo_end_kept [] world = refl
echo_end_kept (argument ∷ later) world = refl

-- a name that was opened, or no name
pub short_name : (source : Source) (world : World) → IsOpen source world → length (name_of source) ≤ 14
short_name standard world ready = omega arith
short_name (file fd name later) world ready = ready.1

-- the next step of the work on an input, after a read
work_read : (work : Work) (source : Source) (call : Call) (reply : Reply) (world : World) (most : ℕ) → call ≡ Read (fd_of source) most → IsOpen source world → May call reply world →
    ((bytes : Bytes) → Takes most (left_at (fd_of source) world) bytes →
    Kept (filter_of work) (work_step work (name_of source) (Bytes' bytes)) (name_of source) (work_out work (name_of source) (left_at (fd_of source) world)) (work_rest work (left_at (fd_of source) world)) (drop (length bytes) (left_at (fd_of source) world))) →
    work_still work source world ≡ left_of (turn_by (work_step work (name_of source) reply) (filter_of work) source) 0 (after_call call reply world)
work_read work source call reply world most is ready may kept =
    let heard = heard_read source call reply world most is ready may in
    read_kept work (work_step work (name_of source) (Bytes' heard.0)) source world heard.0 ready (kept heard.0 heard.2)
    ∙ ap (λ (r : Reply). left_of (turn_by (work_step work (name_of source) r) (filter_of work) source) 0 (after_call (Read (fd_of source) most) r world)) (sym heard.1)
    ∙ ap (λ (c : Call). left_of (turn_by (work_step work (name_of source) reply) (filter_of work) source) 0 (after_call c reply world)) (sym is)

-- and after a write
work_write : (work : Work) (source : Source) (call : Call) (reply : Reply) (world : World) → IsWrite 1 call → May call reply world →
    Kept (filter_of work) (work_step work (name_of source) Done) (name_of source) (work_out work (name_of source) (left_at (fd_of source) world)) (work_rest work (left_at (fd_of source) world)) (left_at (fd_of source) world) →
    work_still work source world ≡ left_of (turn_by (work_step work (name_of source) reply) (filter_of work) source) 0 (after_call call reply world)
work_write work source call reply world (bytes, is) may kept =
    let heard : reply ≡ Done = subst (λ (c : Call). May c reply world) is may in
    write_kept work (work_step work (name_of source) Done) source world kept
    ∙ ap (λ (r : Reply). left_of (turn_by (work_step work (name_of source) r) (filter_of work) source) 0 (after_call (Write 1 bytes) r world)) (sym heard)
    ∙ ap (λ (c : Call). left_of (turn_by (work_step work (name_of source) reply) (filter_of work) source) 0 (after_call c reply world)) (sym is)

work_kept : (work : Work) (source : Source) (call : Call) (reply : Reply) (world : World) → WorkWaits work (fd_of source) call → IsOpen source world → May call reply world →
    work_still work source world ≡ left_of (turn_by (work_step work (name_of source) reply) (filter_of work) source) 0 (after_call call reply world)
work_kept cat_reads source call reply world waits ready may =
    work_read cat_reads source call reply world 512 waits ready may (λ bytes takes. cat_kept (name_of source) 512 (left_at (fd_of source) world) bytes takes)
work_kept cat_writes source call reply world waits ready may =
    work_write cat_writes source call reply world waits may (record { on = refl; out = refl; rest = refl })
work_kept (head_reads lines wanted) source call reply world waits ready may =
    work_read (head_reads lines wanted) source call reply world 1 waits.1 ready may (λ bytes takes. head_kept lines wanted (name_of source) (left_at (fd_of source) world) bytes waits.0 takes)
work_kept (head_writes lines wanted) source call reply world waits ready may =
    work_write (head_writes lines wanted) source call reply world waits may (head_begins lines wanted (name_of source) (left_at (fd_of source) world))
work_kept (wc_reads lines words count inside) source call reply world waits ready may =
    work_read (wc_reads lines words count inside) source call reply world 512 waits.3 ready may
    (λ bytes takes. wc_kept lines words count inside (name_of source) 512 (left_at (fd_of source) world) bytes waits.0 waits.1 waits.2 (short_name source world ready) takes)
work_kept wc_writes source call reply world waits ready may =
    work_write wc_writes source call reply world waits may (record { on = tt; out = refl; rest = refl })
work_kept (grep_reads pattern kept) source call reply world waits ready may =
    work_read (grep_reads pattern kept) source call reply world (1023 - length kept) waits.2 ready may
    (λ bytes takes. grep_kept pattern kept (name_of source) (left_at (fd_of source) world) bytes waits.0 waits.1 takes)
work_kept (grep_writes pattern rest) source call reply world waits ready may =
    work_write (grep_writes pattern rest) source call reply world waits.1 may (buffer_kept pattern (name_of source) (left_at (fd_of source) world) rest waits.0)

-- what is left where the next call and the reply to this one are known
replied : (state : State) (call known : Call) (reply : Reply) (world : World) (said : Reply) (value : Value) → call ≡ known → reply ≡ said →
    value ≡ left_of (turn state said) 0 (after_call known said world) → value ≡ left_of (turn state reply) 0 (after_call call reply world)
replied state call known reply world said value is heard e =
    e
    ∙ ap (λ (r : Reply). left_of (turn state r) 0 (after_call known r world)) (sym heard)
    ∙ ap (λ (c : Call). left_of (turn state reply) 0 (after_call c reply world)) (sym is)

-- a write to one of the first three descriptors doesn't change the world
low_write : (fd : ℕ) (bytes : Bytes) (world : World) → fd < 3 → after_call (Write fd bytes) Done world ≡ world
low_write zero bytes world low = refl
low_write (suc zero) bytes world low = refl
low_write (suc (suc zero)) bytes world low = refl
low_write (suc (suc (suc fd))) bytes world low = absurd (omega (arith, low))

-- and such a write is done, to descriptors 1 and 2
pub low_done : (fd : ℕ) (world : World) → 0 < fd → fd < 3 → may_write fd world ≡ true
low_done zero world some low = absurd (omega (arith, some))
low_done (suc zero) world some low = refl
low_done (suc (suc zero)) world some low = refl
low_done (suc (suc (suc fd))) world some low = absurd (omega (arith, low))

next_open : (filter : Filter) (later : List Name) (world : World) → fixed (of_files (of_input filter) later world.files) world.input world.files ≡ left_of (opens_next filter later) 0 world
next_open filter [] world = refl
next_open filter (name ∷ later) world = refl

-- a close changes nothing that counts
closed_kept : (filter : Filter) (later : List Name) (world : World) (fd : ℕ) → left_of (opens_next filter later) 0 world ≡ left_of (opens_next filter later) 0 (after_call (Close fd) Done world)
closed_kept filter [] world fd = refl
closed_kept filter (name ∷ later) world fd = refl

begins_program_kept : (program : Program) (arguments : List Bytes) (world : World) → BeginsShort program arguments →
    program_value (Some program) arguments world.input world.files ≡ left_of (begins_program program arguments) 0 world
begins_program_kept Cat arguments world short = filter_begins copying arguments world
begins_program_kept Echo arguments world short = echo_kept arguments world short
begins_program_kept Grep [] world short = refl
begins_program_kept Grep (pattern ∷ names) world short = filter_begins (searching pattern) names world
begins_program_kept Head arguments world short = head_begins_kept arguments world
begins_program_kept Tee' arguments world short = tee_next_kept [] arguments world
begins_program_kept Wc arguments world short = filter_begins counting arguments world

tee_kept : (tee : Tee) (call : Call) (reply : Reply) (world : World) → TeeWaits tee call world → AreWithin (outputs tee) world.own world.files → May call reply world → still (tees tee) world ≡ left_of (turn (tees tee) reply) 0 (after_call call reply world)
tee_kept (tee_opens fds name later) call reply world (is, few, distinct, at) within may =
    tee_open_kept fds name later world reply few at (subst (λ (c : Call). May c reply world) is may)
    ∙ ap (λ (c : Call). left_of (turn (tees (tee_opens fds name later)) reply) 0 (after_call c reply world)) (sym is)
tee_kept (tee_reads fds) call reply world (is, distinct, (place, at)) within may =
    let heard : May (Read 0 512) reply world = subst (λ (c : Call). May c reply world) is may in
    replied (tees (tee_reads fds)) call (Read 0 512) reply world (Bytes' heard.0) _ is heard.1 (tee_read_kept fds place world heard.0 at heard.2)
tee_kept (tee_writes fds bytes) call reply world (is, distinct, (place, at)) within may =
    replied (tees (tee_writes fds bytes)) call (Write 1 bytes) reply world Done _ is (subst (λ (c : Call). May c reply world) is may) (gives_next_kept fds 0 place bytes world at)
tee_kept (tee_gives fds at bytes) call reply world (is, inside, distinct, (place, had, stands)) within may =
    let now = gave fds at bytes place world inside distinct had stands in
    let after = after_call (Write (slice_index_or fds at 0) bytes) Done world in
    let done : reply ≡ Done = subst (λ (c : Call). May c reply world) is may ∙ ap done_if (gives_done fds at place world inside stands within) in
    replied (tees (tee_gives fds at bytes)) call (Write (slice_index_or fds at 0) bytes) reply world Done _ is done
    (now.value ∙ gives_next_kept fds (at + 1) place bytes after now.stands)

pub call_kept : (state : State) (call : Call) (reply : Reply) (world : World) → Waits state call world → Fits state world → May call reply world →
    still state world ≡ left_of (turn state reply) 0 (after_call call reply world)
call_kept (begins program arguments) call reply world waits fits may =
    replied (begins program arguments) call (Exec true) reply world Done _ waits.0 (subst (λ (c : Call). May c reply world) waits.0 may) (begins_program_kept program arguments world waits.1)
call_kept (echo_word later) call reply world ((bytes, is), short) fits may =
    replied (echo_word later) call (Write 1 bytes) reply world Done _ is (subst (λ (c : Call). May c reply world) is may) (echo_end_kept later world)
call_kept (echo_space later) call reply world ((bytes, is), short) fits may =
    replied (echo_space later) call (Write 1 bytes) reply world Done _ is (subst (λ (c : Call). May c reply world) is may) (echo_kept later world short)
call_kept (opens filter name later) call reply world waits fits may =
    open_kept filter name later world reply (subst (λ (c : Call). May c reply world) waits may)
    ∙ ap (λ (c : Call). left_of (turn (opens filter name later) reply) 0 (after_call c reply world)) (sym waits)
call_kept (works work source) call reply world waits fits may = work_kept work source call reply world waits.0 waits.1 may
call_kept (closes filter later) call reply world (fd, is, held) fits may =
    let done : reply ≡ Done = subst (λ (c : Call). May c reply world) is may ∙ ap done_if held in
    replied (closes filter later) call (Close fd) reply world Done _ is done (next_open filter later world ∙ closed_kept filter later world fd)
call_kept (tees tee) call reply world waits fits may = tee_kept tee call reply world waits fits may
call_kept told call reply world (fd, some, low, (bytes, is)) fits may =
    let done : reply ≡ Done = subst (λ (c : Call). May c reply world) is may ∙ ap done_if (low_done fd world some low) in
    replied told call (Write fd bytes) reply world Done _ is done
    (ap (λ (w : World). nothing w.input w.files) (sym (low_write fd bytes world low)))
call_kept ended call reply world waits fits may = absurd (subst (λ (c : Call). May c reply world) waits may)

-- a write that was put in part
pub put_kept : (t : Turn) (put more : ℕ) (world : World) → left_of t put world ≡ after_bytes (take more (drop put (to_out t.call))) (left_of t (put + more) world)
put_kept t put more world =
    let bytes = to_out t.call in
    let later = still t.next world in
    let parts : drop put bytes ≡ take more (drop put bytes) ++ drop (put + more) bytes =
    sym (take-append-drop more (drop put bytes)) ∙ ap (λ (z : Bytes). take more (drop put bytes) ++ z) (drop-drop more put bytes) in
    ap (λ (o : Bytes). record later { out = o }) (ap (λ (z : Bytes). z ++ later.out) parts ∙ append_assoc (take more (drop put bytes)) (drop (put + more) bytes) later.out)
