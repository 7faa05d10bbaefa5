-- A program that runs alone reads no more bytes than its program function, also where writes are refused.
use Rattle.std.proofs.Common.{◌≡◌, ◌∙◌, inl, inr, ℕ, zero, suc, ◌+◌, ◌-◌, ◌<◌, ◌≤◌, nat_lt, Bool, true, false, List, [], ◌∷◌, ◌++◌, length, drop, Option, Some, None, refl, sym, ap, subst, arith}
use Rattle.std.specs.Prelude.{◌&&◌, if◌then◌else◌, slice_index_or}
use Rattle.std.proofs.lemmas.Bool.{eq-eqb}
use Rattle.std.proofs.lemmas.List.{length-append}
use Rattle.mem_files.specs.Name.{Name, Bytes}
use Rattle.mem_files.specs.Files.{FileMap, bytes_of}
use Rattle.prog_parts.specs.declared.program.Program.{Program}
use Rattle.prog_parts.specs.declared.program.Program.TheVariants.{Cat, Echo, Grep, Head, Tee as Tee', Wc}
use Rattle.prog_parts.specs.Head.{head_files, has_wrong_option, line_count}
use Rattle.user_calls.specs.declared.calls.Mode.TheVariants.{Input, Fresh}
use Rattle.user_calls.specs.declared.calls.Call.{Call}
use Rattle.user_calls.specs.declared.calls.Call.TheVariants.{Read, Write, OpenFile, Close}
use Rattle.user_calls.specs.declared.calls.Reply.{Reply}
use Rattle.user_calls.specs.declared.calls.Reply.TheVariants.{Done, Fd, Refused}
use Rattle.meaning_model.specs.Inputs.{found}
use Rattle.meaning_model.specs.Tee.{are_openable}
use Rattle.user_progs.specs.State.{Filter, copying, heading, counting, searching, standard, file, Tee, tee_opens, tee_reads, tee_writes, tee_gives, State, begins, echo_word, echo_space, opens, works, closes, tees, told, ended}
use Rattle.user_progs.specs.Turn.{Answer, yields, denies, strays, bytes_in, done_in, block, turn, turn_by, first_step, opens_next, begins_filter, begins_head, begins_program, echo_next, echo_end, tee_waits, tee_opens_next, tee_got, tee_gives_next, tee_wrote, tee_turn}
use Rattle.tree_model.specs.Alone.{OwnFile, World, can_open, held, left_of_file, left_at, Takes, MayOpen, May, may_write, done_if, after_read, after_file_write, after_done_write, after_write, after_call}
use Rattle.tree_model.specs.Waits.{TeeWaits, Waits}
use Rattle.tree_model.specs.Exits.{bytes_told, bytes_read}
use Rattle.tree_model.specs.Reads.{taken, taken_of_found, taken_of_files, taken_of_inputs, bytes_of_function}
use Rattle.tree_model.specs.ProgramRuns.{Process, after_reply, MayOrRefuse, MayBeRefused}
use Rattle.law_trees.proofs.programs.Work.{left_over, begins_kept}
use Rattle.law_trees.proofs.programs.Keeps.{found_block, found_is, open_changes_nothing}
use Rattle.law_trees.proofs.programs.Teeing.{new_file, with_new, by_open}
use Rattle.law_trees.proofs.programs.Waiting.{waits_on}
use Rattle.law_trees.proofs.programs.Refusing.{changes_nothing, waits_refused}
use Rattle.law_trees.proofs.programs.Taking.{step_takes, tee_takes, takes, takes_rest, IsOf, goes_of, step_next, Less, work_less, work_refused}

-- the inputs one by one

first_of : (filter : Filter) → IsOf filter (first_step filter)
first_of filter = goes_of filter (first_step filter) (begins_kept filter [] []).on

first_takes : (filter : Filter) (left : Bytes) → step_takes (first_step filter) left ≡ taken filter left
first_takes filter left =
    takes_rest (first_step filter) left ∙ ap (λ (rest : Bytes). length left - length rest) (sym (begins_kept filter [] left).rest)

next_takes : (filter : Filter) (names : List Name) (world : World) → takes (opens_next filter names).next world ≤ taken_of_files filter names world.files
next_takes filter [] world = omega arith
next_takes filter (name ∷ later) world = omega arith

filter_takes : (filter : Filter) (names : List Name) (world : World) → takes (begins_filter filter names).next world ≤ taken_of_inputs filter names world.input world.files
filter_takes filter [] world = omega (arith, step_next filter (first_step filter) standard world (first_of filter), first_takes filter world.input)
filter_takes filter (name ∷ later) world = omega arith

head_takes : (wrong : Bool) (arguments : List Bytes) (world : World) →
    takes (begins_head wrong arguments).next world ≤ (if wrong then 0 else taken_of_inputs (heading (line_count arguments)) (head_files arguments) world.input world.files)
head_takes true arguments world = omega arith
head_takes false arguments world = filter_takes (heading (line_count arguments)) (head_files arguments) world

echo_takes : (arguments : List Bytes) (world : World) → takes (echo_next arguments).next world ≤ 0
echo_takes [] world = omega arith
echo_takes (argument ∷ later) world = omega arith

echo_end_takes : (later : List Bytes) (world : World) → takes (echo_end later).next world ≤ 0
echo_end_takes [] world = omega arith
echo_end_takes (argument ∷ later) world = omega arith

tee_next_takes : (fds : List ℕ) (names : List Name) (world : World) → takes (tee_opens_next fds names).next world ≤ tee_takes names world.input
tee_next_takes fds [] world = omega arith
tee_next_takes fds (name ∷ later) world = omega arith

program_takes : (program : Program) (arguments : List Bytes) (world : World) → takes (begins_program program arguments).next world ≤ bytes_of_function program arguments world.input world.files
program_takes Cat arguments world = filter_takes copying arguments world
program_takes Echo arguments world = echo_takes arguments world
program_takes Grep [] world = omega arith
program_takes Grep (pattern ∷ names) world = filter_takes (searching pattern) names world
program_takes Head arguments world = head_takes (has_wrong_option arguments) arguments world
program_takes Tee' arguments world = tee_next_takes [] arguments world
program_takes Wc arguments world = filter_takes counting arguments world

-- an open that was granted

abbrev pub with_input : ℕ → Name → World → World
with_input fd name world = record world { own = new_file fd name Input ∷ world.own }

pub opened_input : (fd : ℕ) (name : Name) (world : World) → after_call (OpenFile name Input) (Fd fd) world ≡ with_input fd name world
opened_input fd name world = ap (λ (F : FileMap). record world { own = new_file fd name Input ∷ world.own; files = F }) (open_changes_nothing (can_open name Input world.files) name world.files)

opened_left : (fd : ℕ) (name : Name) (bytes : Bytes) (world : World) → found world.files name ≡ Some bytes → 2 < fd → left_at fd (with_input fd name world) ≡ bytes
opened_left zero name bytes world e high = absurd (omega (arith, high))
opened_left (suc fd) name bytes world e high =
    ap (λ (t : Bool). bytes_of (left_of_file (if t then Some (new_file (suc fd) name Input) else held world.own (suc fd)) world.files)) (eq-eqb (suc fd) (suc fd) refl)
    ∙ ap bytes_of (found_is world.files name bytes e)

opened_less : (filter : Filter) (name : Name) (later : List Name) (world : World) (reply : Reply) → May (OpenFile (block name) Input) reply world → Less (opens filter name later) (OpenFile (block name) Input) reply world
opened_less filter name later world reply may = go (found world.files (block name)) refl may
  where
    F : FileMap
    F = world.files

    go : (o : Option Bytes) → found F (block name) ≡ o → MayOpen o reply world → Less (opens filter name later) (OpenFile (block name) Input) reply world
    go None e is = subst (λ (r : Reply). Less (opens filter name later) (OpenFile (block name) Input) r world) (sym is) (omega arith)
    go (Some bytes) e (fd, is, new) =
        let after = with_input fd (block name) world in
        let left = opened_left fd (block name) bytes world e new.0 in
        let all : taken_of_files filter (name ∷ later) F ≡ taken filter bytes + taken_of_files filter later F =
        ap (λ (o : Option Bytes). taken_of_found o filter (taken_of_files filter later F)) (sym (found_block F name) ∙ e) in
        let next : takes (turn_by (first_step filter) filter (file fd name later)).next after ≤ step_takes (first_step filter) bytes + taken_of_files filter later F =
        subst (λ (l : Bytes). takes (turn_by (first_step filter) filter (file fd name later)).next after ≤ step_takes (first_step filter) l + taken_of_files filter later F) left
        (step_next filter (first_step filter) (file fd name later) after (first_of filter)) in
        subst (λ (r : Reply). Less (opens filter name later) (OpenFile (block name) Input) r world) (sym is)
        (subst (λ (w : World). 0 + takes (turn_by (first_step filter) filter (file fd name later)).next w ≤ takes (opens filter name later) world) (sym (opened_input fd (block name) world))
        (omega (arith, next, all, first_takes filter bytes)))

-- tee

gives_takes : (fds : List ℕ) (at : ℕ) (bytes : Bytes) (world : World) → takes (tee_gives_next fds at bytes).next world ≤ length world.input
gives_takes fds at bytes world = go (nat_lt at (length fds))
  where
    go : (more : Bool) → takes (if more then record { call = Write (slice_index_or fds at 0) bytes; next = tees (tee_gives fds at bytes) } else tee_waits fds).next world ≤ length world.input
    go true = omega arith
    go false = omega arith

file_input : (h : Option OwnFile) (bytes : Bytes) (world : World) → (after_file_write h bytes world).input ≡ world.input
file_input None bytes world = refl
file_input (Some f) bytes world = refl

write_input : (fd : ℕ) (bytes : Bytes) (world : World) → (after_done_write fd bytes world).input ≡ world.input
write_input zero bytes world = refl
write_input (suc zero) bytes world = refl
write_input (suc (suc zero)) bytes world = refl
write_input (suc (suc (suc fd))) bytes world = file_input (held world.own (suc (suc (suc fd)))) bytes world

wrote_takes : (fds : List ℕ) (fd at : ℕ) (bytes more : Bytes) (said : Answer (Unit {0})) (world : World) → takes (tee_wrote fds at bytes said).next (after_write fd more said world) ≤ length world.input
wrote_takes fds fd at bytes more (yields done) world = omega (arith, gives_takes fds at bytes (after_done_write fd more world), ap length (write_input fd more world))
wrote_takes fds fd at bytes more denies world = omega arith
wrote_takes fds fd at bytes more strays world = omega arith

no_bytes : (can : Bool) → bytes_told (bytes_in (done_if can)) ≡ 0
no_bytes true = refl
no_bytes false = refl

tee_read : (fds : List ℕ) (bytes : Bytes) (world : World) → Takes 512 world.input bytes → length bytes + takes (tee_got fds (yields bytes)).next (after_read 0 (yields bytes) world) ≤ length world.input
tee_read fds [] world is = omega arith
tee_read fds (byte ∷ bytes) world is =
    let b = byte ∷ bytes in
    omega (arith, ap length (left_over 512 world.input b is) ∙ length-append b (drop (length b) world.input))

tee_opened_less : (fds : List ℕ) (name : Name) (later : List Name) (reply : Reply) (world : World) → length fds + length later < 16 → May (OpenFile (block name) Fresh) reply world →
    takes (tee_turn (tee_opens fds name later) reply).next (after_call (OpenFile (block name) Fresh) reply world) ≤ tee_takes (name ∷ later) world.input
tee_opened_less fds name later reply world few may =
    by_open (λ t w. takes t.next w ≤ tee_takes (name ∷ later) world.input) fds name later world reply few (λ e. omega arith)
    (λ fd e high new.
    let same : tee_takes (name ∷ later) world.input ≡ tee_takes later world.input = ap (λ (t : Bool). if t && are_openable later then length world.input else 0) e in
    omega (arith, same, tee_next_takes (fds ++ fd ∷ []) later (with_new fd name world)))
    may

open_told : (o : Option Bytes) (reply : Reply) (world : World) → MayOpen o reply world → bytes_told (bytes_in reply) ≡ 0
open_told None reply world is = ap (λ (r : Reply). bytes_told (bytes_in r)) is
open_told (Some bytes) reply world (fd, is, new) = ap (λ (r : Reply). bytes_told (bytes_in r)) is

write_told : (fd : ℕ) (bytes : Bytes) (reply : Reply) (world : World) → May (Write fd bytes) reply world → bytes_told (bytes_in reply) ≡ 0
write_told fd bytes reply world may = ap (λ (r : Reply). bytes_told (bytes_in r)) may ∙ no_bytes (may_write fd world)

tee_less : (tee : Tee) (call : Call) (reply : Reply) (world : World) → TeeWaits tee call world → May call reply world → Less (tees tee) call reply world
tee_less (tee_opens fds name later) call reply world (is, few, distinct, at) may =
    let now : May (OpenFile (block name) Fresh) reply world = subst (λ (c : Call). May c reply world) is may in
    subst (λ (c : Call). Less (tees (tee_opens fds name later)) c reply world) (sym is)
    (omega (arith, open_told (can_open (block name) Fresh world.files) reply world now, tee_opened_less fds name later reply world few now))
tee_less (tee_reads fds) call reply world waits may =
    let now : May (Read 0 512) reply world = subst (λ (c : Call). May c reply world) waits.0 may in
    subst (λ (c : Call). Less (tees (tee_reads fds)) c reply world) (sym waits.0)
    (subst (λ (r : Reply). Less (tees (tee_reads fds)) (Read 0 512) r world) (sym now.1) (tee_read fds now.0 world now.2))
tee_less (tee_writes fds bytes) call reply world waits may =
    let now : May (Write 1 bytes) reply world = subst (λ (c : Call). May c reply world) waits.0 may in
    subst (λ (c : Call). Less (tees (tee_writes fds bytes)) c reply world) (sym waits.0)
    (omega (arith, write_told 1 bytes reply world now, wrote_takes fds 1 0 bytes bytes (done_in reply) world))
tee_less (tee_gives fds at bytes) call reply world waits may =
    let fd = slice_index_or fds at 0 in
    let now : May (Write fd bytes) reply world = subst (λ (c : Call). May c reply world) waits.0 may in
    subst (λ (c : Call). Less (tees (tee_gives fds at bytes)) c reply world) (sym waits.0)
    (omega (arith, write_told fd bytes reply world now, wrote_takes fds fd (at + 1) bytes bytes (done_in reply) world))

-- any program

told_less : (state : State) (call known : Call) (reply said : Reply) (world : World) → call ≡ known → reply ≡ said → Less state known said world → Less state call reply world
told_less state call known reply said world is heard less =
    subst (λ (c : Call). Less state c reply world) (sym is) (subst (λ (r : Reply). Less state known r world) (sym heard) less)

out_done : (bytes : Bytes) (reply : Reply) (call : Call) (world : World) → call ≡ Write 1 bytes → May call reply world → reply ≡ Done
out_done bytes reply call world is may = subst (λ (c : Call). May c reply world) is may

call_less : (state : State) (call : Call) (reply : Reply) (world : World) → Waits state call world → May call reply world → Less state call reply world
call_less (begins program arguments) call reply world waits may =
    told_less (begins program arguments) call _ reply Done world waits.0 (subst (λ (c : Call). May c reply world) waits.0 may) (omega (arith, program_takes program arguments world))
call_less (echo_word later) call reply world ((bytes, is), short) may =
    told_less (echo_word later) call (Write 1 bytes) reply Done world is (out_done bytes reply call world is may) (omega (arith, echo_end_takes later world))
call_less (echo_space later) call reply world ((bytes, is), short) may =
    told_less (echo_space later) call (Write 1 bytes) reply Done world is (out_done bytes reply call world is may) (omega (arith, echo_takes later world))
call_less (opens filter name later) call reply world waits may =
    subst (λ (c : Call). Less (opens filter name later) c reply world) (sym waits) (opened_less filter name later world reply (subst (λ (c : Call). May c reply world) waits may))
call_less (works work source) call reply world waits may = work_less work source call reply world waits.0 waits.1 may
call_less (closes filter later) call reply world (fd, is, held_so) may =
    let done : reply ≡ Done = subst (λ (c : Call). May c reply world) is may ∙ ap done_if held_so in
    told_less (closes filter later) call (Close fd) reply Done world is done (omega (arith, closed_takes later))
  where
    closed_takes : (later : List Name) → takes (opens_next filter later).next (after_call (Close fd) Done world) ≤ taken_of_files filter later world.files
    closed_takes later = next_takes filter later (after_call (Close fd) Done world)
call_less (tees tee) call reply world waits may = tee_less tee call reply world waits may
call_less told call reply world (fd, some, low, (bytes, is)) may =
    let now : May (Write fd bytes) reply world = subst (λ (c : Call). May c reply world) is may in
    omega (arith, write_told fd bytes reply world now)
call_less ended call reply world waits may = absurd (subst (λ (c : Call). May c reply world) waits may)

refused_takes : (state : State) (call : Call) (world : World) → Waits state call world → takes (turn state Refused).next world ≤ takes state world
refused_takes (begins program arguments) call world waits = program_takes program arguments world
refused_takes (echo_word later) call world waits = echo_end_takes later world
refused_takes (echo_space later) call world waits = echo_takes later world
refused_takes (opens filter name later) call world waits = omega arith
refused_takes (works work source) call world waits = work_refused work source call world waits.0
refused_takes (closes filter later) call world waits = omega arith
refused_takes (tees (tee_opens fds name later)) call world waits = omega arith
refused_takes (tees (tee_reads fds)) call world waits = omega arith
refused_takes (tees (tee_writes fds bytes)) call world waits = omega arith
refused_takes (tees (tee_gives fds at bytes)) call world waits = omega arith
refused_takes told call world waits = omega arith
refused_takes ended call world waits = omega arith

-- over any replies, refused writes too
waits_or_refused : (state : State) (call : Call) (reply : Reply) (world : World) → Waits state call world → MayOrRefuse call reply world → Waits (turn state reply).next (turn state reply).call (after_call call reply world)
waits_or_refused state call reply world waits (inl may) = waits_on state call reply world waits may
waits_or_refused state call reply world waits (inr (fd, bytes, is, heard)) =
    subst (λ (r : Reply). Waits (turn state r).next (turn state r).call (after_call call r world)) (sym heard)
    (subst (λ (w : World). Waits (turn state Refused).next (turn state Refused).call w) (sym (changes_nothing call world)) (waits_refused state call world waits))

less_or_refused : (state : State) (call : Call) (reply : Reply) (world : World) → Waits state call world → MayOrRefuse call reply world → Less state call reply world
less_or_refused state call reply world waits (inl may) = call_less state call reply world waits may
less_or_refused state call reply world waits (inr (fd, bytes, is, heard)) =
    subst (λ (r : Reply). Less state call r world) (sym heard)
    (subst (λ (w : World). 0 + takes (turn state Refused).next w ≤ takes state world) (sym (changes_nothing call world)) (omega (arith, refused_takes state call world waits)))

pub reads_within : (p : Process) (replies : List Reply) → Waits p.state p.call p.world → MayBeRefused p replies → bytes_read replies ≤ takes p.state p.world
reads_within p [] waits may = omega arith
reads_within p (reply ∷ replies) waits may =
    omega (
      arith,
      less_or_refused p.state p.call reply p.world waits may.0,
      reads_within (after_reply p reply) replies (waits_or_refused p.state p.call reply p.world waits may.0) may.1,
    )
