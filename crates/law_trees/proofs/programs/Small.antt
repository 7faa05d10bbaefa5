-- Each turn writes no more bytes than one call moves, and holds no more.
use Rattle.std.proofs.Common.{ℕ, zero, suc, ◌+◌, ◌-◌, ◌≤◌, nat_lt, nat_le, Bool, true, false, List, [], ◌∷◌, ◌++◌, length, drop, arith}
use Rattle.std.specs.Prelude.{if◌then◌else◌, slice_index_or, codes}
use Rattle.std.proofs.lemmas.List.{length-take}
use Rattle.mem_files.specs.Name.{Name, Bytes}
use Rattle.grep_match.specs.Match.{matches}
use Rattle.prog_parts.specs.declared.program.Program.{Program}
use Rattle.prog_parts.specs.declared.program.Program.TheVariants.{Cat, Echo, Grep, Head, Tee as Tee', Wc}
use Rattle.prog_parts.specs.Head.{head_files, has_wrong_option, line_count}
use Rattle.user_calls.specs.declared.calls.Call.TheVariants.{Write}
use Rattle.user_calls.specs.declared.calls.Reply.{Reply}
use Rattle.prog_parts.specs.Grep.{tested}
use Rattle.user_progs.specs.State.{Filter, copying, heading, counting, searching, Source, standard, file, Work, cat_reads, cat_writes, head_reads, head_writes, wc_reads, wc_writes, grep_reads, grep_writes, Tee, tee_opens, tee_reads, tee_writes, tee_gives, State, begins, echo_word, echo_space, opens, works, closes, tees, told, ended}
use Rattle.user_progs.specs.Turn.{Answer, yields, denies, strays, Turn, Step, reads, writes, finishes, fails, quits, bytes_in, fd_in, done_in, closed_by, turn, turn_by, first_step, work_step, filter_of, name_of, block, tells, opened_by, opens_next, begins_filter, begins_head, begins_program, echo_next, echo_end, cat_got, cat_wrote, head_got, head_goes_on, head_wrote, wc_got, grep_got, grep_lines, tee_waits, tee_opens_next, tee_opened, tee_cannot_open, tee_got, tee_gives_next, tee_wrote, tee_turn}
use Rattle.tree_model.specs.Exits.{bytes_told}
use Rattle.tree_model.specs.Blocks.{WritesBlock, HoldsBlock}

abbrev Small : Turn → Type 0
Small t = WritesBlock t.call × HoldsBlock t.next

block_small : (bytes : Bytes) → length (block bytes) ≤ 1024
block_small bytes = omega (arith, length-take 1024 bytes)

tells_small : (message : Bytes) → Small (tells message)
tells_small message = (block_small message, tt)

abbrev SmallStep : Step → Type 0
SmallStep (reads most work) = Unit {0}
SmallStep (writes bytes work) = length bytes ≤ 1024
SmallStep finishes = Unit {0}
SmallStep (fails message) = Unit {0}
SmallStep quits = Unit {0}

by_small : (step : Step) (filter : Filter) (source : Source) → SmallStep step → Small (turn_by step filter source)
by_small (reads most work) filter source h = (tt, tt)
by_small (writes bytes work) filter source h = (h, tt)
by_small finishes filter standard h = (tt, tt)
by_small finishes filter (file fd name later) h = (tt, tt)
by_small (fails message) filter source h = tells_small message
by_small quits filter source h = (tt, tt)

cat_small : (got : Answer Bytes) → bytes_told got ≤ 1024 → SmallStep (cat_got got)
cat_small denies h = tt
cat_small strays h = tt
cat_small (yields []) h = tt
cat_small (yields (byte ∷ bytes)) h = h

cat_wrote_small : (said : Answer (Unit {0})) → SmallStep (cat_wrote said)
cat_wrote_small (yields done) = tt
cat_wrote_small denies = tt
cat_wrote_small strays = tt

head_on_small : (lines wanted : ℕ) → SmallStep (head_goes_on lines wanted)
head_on_small lines zero = tt
head_on_small lines (suc wanted) = tt

head_small : (lines wanted : ℕ) (got : Answer Bytes) → SmallStep (head_got lines wanted got)
head_small lines wanted denies = tt
head_small lines wanted strays = tt
head_small lines wanted (yields []) = tt
head_small lines zero (yields (byte ∷ bytes)) = tt
head_small lines (suc wanted) (yields (byte ∷ bytes)) = omega arith

head_wrote_small : (lines wanted : ℕ) (said : Answer (Unit {0})) → SmallStep (head_wrote lines wanted said)
head_wrote_small lines wanted (yields done) = head_on_small lines wanted
head_wrote_small lines wanted denies = tt
head_wrote_small lines wanted strays = tt

wc_small : (l w c : ℕ) (inside : Bool) (name : Name) (got : Answer Bytes) → SmallStep (wc_got l w c inside name got)
wc_small l w c inside name denies = tt
wc_small l w c inside name strays = tt
wc_small l w c inside name (yields []) = block_small _
wc_small l w c inside name (yields (byte ∷ bytes)) = tt

lines_small : (pattern : Bytes) (lines : List Bytes) (buffer : Bytes) → SmallStep (grep_lines pattern lines buffer)
lines_small pattern [] buffer = go (nat_le 1023 (length buffer))
  where
    go : (full : Bool) → SmallStep (if full then finishes else reads (1023 - length buffer) (grep_reads pattern buffer))
    go true = tt
    go false = tt
lines_small pattern (line ∷ lines) buffer = go (matches pattern line) (lines_small pattern lines (drop (length line + 1) buffer))
  where
    go : (is : Bool) → SmallStep (grep_lines pattern lines (drop (length line + 1) buffer)) → SmallStep (if is then writes (block (line ++ 10 ∷ [])) (grep_writes pattern (drop (length line + 1) buffer)) else grep_lines pattern lines (drop (length line + 1) buffer))
    go true later = block_small (line ++ 10 ∷ [])
    go false later = later

grep_small : (pattern kept : Bytes) (got : Answer Bytes) → SmallStep (grep_got pattern kept got)
grep_small pattern kept denies = tt
grep_small pattern kept strays = tt
grep_small pattern kept (yields []) = tt
grep_small pattern kept (yields (byte ∷ bytes)) = lines_small pattern (tested (block (kept ++ byte ∷ bytes))) (block (kept ++ byte ∷ bytes))

work_small : (work : Work) (name : Name) (reply : Reply) → bytes_told (bytes_in reply) ≤ 1024 → SmallStep (work_step work name reply)
work_small cat_reads name reply h = cat_small (bytes_in reply) h
work_small cat_writes name reply h = cat_wrote_small (done_in reply)
work_small (head_reads lines wanted) name reply h = head_small lines wanted (bytes_in reply)
work_small (head_writes lines wanted) name reply h = head_wrote_small lines wanted (done_in reply)
work_small (wc_reads l w c inside) name reply h = wc_small l w c inside name (bytes_in reply)
work_small wc_writes name reply h = tt
work_small (grep_reads pattern kept) name reply h = grep_small pattern kept (bytes_in reply)
work_small (grep_writes pattern rest) name reply h = lines_small pattern (tested rest) rest

first_small : (filter : Filter) → SmallStep (first_step filter)
first_small copying = tt
first_small (heading lines) = head_on_small lines lines
first_small counting = tt
first_small (searching pattern) = tt

next_small : (filter : Filter) (names : List Name) → Small (opens_next filter names)
next_small filter [] = (tt, tt)
next_small filter (name ∷ later) = (tt, tt)

filter_small : (filter : Filter) (names : List Name) → Small (begins_filter filter names)
filter_small filter [] = by_small (first_step filter) filter standard (first_small filter)
filter_small filter (name ∷ later) = (tt, tt)

head_begins_small : (wrong : Bool) (arguments : List Bytes) → Small (begins_head wrong arguments)
head_begins_small true arguments = tells_small (codes "usage: head [-N] [file ...]\n")
head_begins_small false arguments = filter_small (heading (line_count arguments)) (head_files arguments)

echo_small : (arguments : List Bytes) → Small (echo_next arguments)
echo_small [] = (tt, tt)
echo_small (argument ∷ later) = (block_small argument, tt)

echo_end_small : (later : List Bytes) → Small (echo_end later)
echo_end_small [] = (omega arith, tt)
echo_end_small (argument ∷ later) = (omega arith, tt)

tee_next_small : (fds : List ℕ) (names : List Name) → Small (tee_opens_next fds names)
tee_next_small fds [] = (tt, tt)
tee_next_small fds (name ∷ later) = (tt, tt)

program_small : (program : Program) (arguments : List Bytes) → Small (begins_program program arguments)
program_small Cat arguments = filter_small copying arguments
program_small Echo arguments = echo_small arguments
program_small Grep [] = tells_small (codes "usage: grep pattern [file ...]\n")
program_small Grep (pattern ∷ names) = filter_small (searching pattern) names
program_small Head arguments = head_begins_small (has_wrong_option arguments) arguments
program_small Tee' arguments = tee_next_small [] arguments
program_small Wc arguments = filter_small counting arguments

closed_small : (filter : Filter) (later : List Name) (said : Answer (Unit {0})) → Small (closed_by filter later said)
closed_small filter later (yields done) = next_small filter later
closed_small filter later denies = (tt, tt)
closed_small filter later strays = (tt, tt)

opened_small : (filter : Filter) (name : Name) (later : List Name) (granted : Answer ℕ) → Small (opened_by filter name later granted)
opened_small filter name later denies = tells_small _
opened_small filter name later strays = (tt, tt)
opened_small filter name later (yields fd) = by_small (first_step filter) filter (file fd name later) (first_small filter)

tee_opened_small : (fds : List ℕ) (name : Name) (later : List Name) (granted : Answer ℕ) → Small (tee_opened fds name later granted)
tee_opened_small fds name later strays = (tt, tt)
tee_opened_small fds name later denies = tells_small (codes "tee" ++ (codes ": cannot open " ++ (name ++ 10 ∷ [])))
tee_opened_small fds name later (yields fd) = go (nat_lt (length fds) 16)
  where
    go : (room : Bool) → Small (if room then tee_opens_next (fds ++ fd ∷ []) later else tee_cannot_open name)
    go true = tee_next_small (fds ++ fd ∷ []) later
    go false = tells_small (codes "tee" ++ (codes ": cannot open " ++ (name ++ 10 ∷ [])))

tee_got_small : (fds : List ℕ) (got : Answer Bytes) → bytes_told got ≤ 1024 → Small (tee_got fds got)
tee_got_small fds strays h = (tt, tt)
tee_got_small fds denies h = tells_small (codes "tee: read error\n")
tee_got_small fds (yields []) h = (tt, tt)
tee_got_small fds (yields (byte ∷ bytes)) h = (h, h)

gives_small : (fds : List ℕ) (at : ℕ) (bytes : Bytes) → length bytes ≤ 1024 → Small (tee_gives_next fds at bytes)
gives_small fds at bytes h = go (nat_lt at (length fds))
  where
    go : (more : Bool) → Small (if more then record { call = Write (slice_index_or fds at 0) bytes; next = tees (tee_gives fds at bytes) } else tee_waits fds)
    go true = (h, h)
    go false = (tt, tt)

wrote_small : (fds : List ℕ) (at : ℕ) (bytes : Bytes) (said : Answer (Unit {0})) → length bytes ≤ 1024 → Small (tee_wrote fds at bytes said)
wrote_small fds at bytes (yields done) h = gives_small fds at bytes h
wrote_small fds at bytes strays h = (tt, tt)
wrote_small fds at bytes denies h = tells_small (codes "tee: write error\n")

tee_small : (tee : Tee) (reply : Reply) → HoldsBlock (tees tee) → bytes_told (bytes_in reply) ≤ 1024 → Small (tee_turn tee reply)
tee_small (tee_opens fds name later) reply s h = tee_opened_small fds name later (fd_in reply)
tee_small (tee_reads fds) reply s h = tee_got_small fds (bytes_in reply) h
tee_small (tee_writes fds bytes) reply s h = wrote_small fds 0 bytes (done_in reply) s
tee_small (tee_gives fds at bytes) reply s h = wrote_small fds (at + 1) bytes (done_in reply) s

pub turn_small : (state : State) (reply : Reply) → HoldsBlock state → bytes_told (bytes_in reply) ≤ 1024 → Small (turn state reply)
turn_small (begins program arguments) reply s h = program_small program arguments
turn_small (echo_word later) reply s h = echo_end_small later
turn_small (echo_space later) reply s h = echo_small later
turn_small (opens filter name later) reply s h = opened_small filter name later (fd_in reply)
turn_small (works work source) reply s h = by_small (work_step work (name_of source) reply) (filter_of work) source (work_small work (name_of source) reply h)
turn_small (closes filter later) reply s h = closed_small filter later (done_in reply)
turn_small (tees tee) reply s h = tee_small tee reply s h
turn_small told reply s h = (tt, tt)
turn_small ended reply s h = (tt, tt)
