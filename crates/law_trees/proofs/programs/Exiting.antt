-- How many calls a state still makes up to Exit, whatever it is answered: each byte that it reads pays for as many calls
-- as it has words, and one more.
use Rattle.std.proofs.Common.{◌≡◌, ◌⊎◌, inl, inr, ℕ, zero, suc, ◌+◌, ◌-◌, ◌*◌, ◌<◌, ◌≤◌, ◌==◌, nat_lt, nat_le, Bool, true, false, List, [], ◌∷◌, ◌++◌, length, take, drop, refl, sym, ap, subst, arith}
use Rattle.std.specs.Prelude.{slice_index_or, if◌then◌else◌}
use Rattle.std.proofs.lemmas.Bool.Decides.{nat_tests}
use Rattle.std.proofs.lemmas.List.{length-append, take-append-drop}
use Rattle.std.proofs.lemmas.List.Sums.{count_by-le-length}
use Rattle.std.proofs.Math.Nat.{add-mul, mul-le-mul_left, mul-le-mul_right}
use Rattle.mem_files.specs.Name.{Name, Bytes}
use Rattle.grep_match.specs.Match.{matches}
use Rattle.prog_parts.specs.declared.program.Program.{Program}
use Rattle.prog_parts.specs.declared.program.Program.TheVariants.{Cat, Echo, Grep, Head, Tee as Tee', Wc}
use Rattle.prog_parts.specs.Head.{head_files, has_wrong_option, is_count, is_option, line_count}
use Rattle.user_calls.specs.Limits.{block_size}
use Rattle.user_calls.specs.declared.calls.Call.TheVariants.{Exit, Write}
use Rattle.user_calls.specs.declared.calls.Reply.{Reply}
use Rattle.prog_parts.specs.Lines.{HasNoLf}
use Rattle.prog_parts.specs.Grep.{is_whole, tested}
use Rattle.prog_parts.specs.Wc.{line_ends}
use Rattle.user_progs.specs.State.{Filter, copying, heading, counting, searching, Source, standard, file, Work, cat_reads, cat_writes, head_reads, head_writes, wc_reads, wc_writes, grep_reads, grep_writes, Tee, tee_opens, tee_reads, tee_writes, tee_gives, State, begins, echo_word, echo_space, opens, works, closes, tees, told, ended}
use Rattle.user_progs.specs.Turn.{Answer, yields, denies, strays, Turn, Step, reads, writes, finishes, fails, quits, bytes_in, fd_in, done_in, closed_by, turn, turn_by, first_step, work_step, filter_of, name_of, block, opened_by, opens_next, begins_filter, begins_head, begins_program, echo_next, echo_end, cat_got, cat_wrote, head_got, head_goes_on, head_wrote, wc_got, grep_got, grep_goes_on, grep_lines, tee_waits, tee_opens_next, tee_opened, tee_cannot_open, tee_got, tee_gives_next, tee_wrote, tee_turn}
use Rattle.tree_model.specs.Tame.{Among}
use Rattle.tree_model.specs.Exits.{calls_on, bytes_told, bytes_read, most_calls, calls_after, calls_in, calls_of_tee, calls_left, tee_width, width}
use Rattle.user_progs.proofs.Buffer.{at_match, at_other}
use Rattle.law_trees.proofs.programs.Search.{by_lines}
use Rattle.prog_parts.proofs.CountsOfParts.{line_ends_more}

-- a turn calls Exit, or it makes one of so many calls
abbrev pub Goes : ℕ → ℕ → Turn → Type 0
Goes most credit turn = (turn.call ≡ Exit) ⊎ ((calls_left turn.next < credit) × (width turn.next ≤ most))

some_after : (source : Source) → 1 ≤ calls_after source
some_after standard = omega arith
some_after (file fd name later) = omega arith

pub some_left : (state : State) → 1 ≤ calls_left state
some_left (begins program arguments) = omega arith
some_left (echo_word later) = omega arith
some_left (echo_space later) = omega arith
some_left (opens filter name later) = omega arith
some_left (works work source) = omega (arith, some_after source)
some_left (closes filter later) = omega arith
some_left (tees tee) = of_tee tee
  where
    of_tee : (tee : Tee) → 1 ≤ calls_of_tee tee
    of_tee (tee_opens fds name later) = omega arith
    of_tee (tee_reads fds) = omega arith
    of_tee (tee_writes fds bytes) = omega arith
    of_tee (tee_gives fds at bytes) = omega arith
some_left told = omega arith
some_left ended = omega arith

-- the work on one input

abbrev calls_by : Step → ℕ
calls_by (reads most work) = calls_in work + 1
calls_by (writes bytes work) = calls_in work + 1
calls_by finishes = 0
calls_by (fails message) = 1
calls_by quits = 0

step_goes : (most credit : ℕ) (step : Step) (filter : Filter) (source : Source) → 2 ≤ most → calls_by step + calls_after source ≤ credit → Goes most credit (turn_by step filter source)
step_goes most credit (reads n work) filter source wide few = inr (omega (arith, few), wide)
step_goes most credit (writes bytes work) filter source wide few = inr (omega (arith, few), wide)
step_goes most credit finishes filter standard wide few = inl refl
step_goes most credit finishes filter (file fd name later) wide few = inr (omega (arith, few), wide)
step_goes most credit (fails message) filter source wide few = inr (omega (arith, few, some_after source), wide)
step_goes most credit quits filter source wide few = inl refl

-- two calls are paid by each byte
cat_got_calls : (got : Answer Bytes) (paid : ℕ) → 2 * bytes_told got ≤ paid → calls_by (cat_got got) ≤ 1 + paid
cat_got_calls denies paid few = omega arith
cat_got_calls strays paid few = omega arith
cat_got_calls (yields []) paid few = omega arith
cat_got_calls (yields (byte ∷ bytes)) paid few = omega (arith, few)

cat_wrote_calls : (said : Answer (Unit {0})) → calls_by (cat_wrote said) ≤ 2
cat_wrote_calls (yields done) = omega arith
cat_wrote_calls denies = omega arith
cat_wrote_calls strays = omega arith

head_goes_on_calls : (lines wanted : ℕ) → calls_by (head_goes_on lines wanted) ≤ 2
head_goes_on_calls lines zero = omega arith
head_goes_on_calls lines (suc wanted) = omega arith

head_got_calls : (lines wanted : ℕ) (got : Answer Bytes) (paid : ℕ) → 2 * bytes_told got ≤ paid → calls_by (head_got lines wanted got) ≤ 1 + paid
head_got_calls lines wanted denies paid few = omega arith
head_got_calls lines wanted strays paid few = omega arith
head_got_calls lines wanted (yields []) paid few = omega arith
head_got_calls lines zero (yields (byte ∷ bytes)) paid few = omega arith
head_got_calls lines (suc wanted) (yields (byte ∷ bytes)) paid few = omega (arith, few)

head_wrote_calls : (lines wanted : ℕ) (said : Answer (Unit {0})) → calls_by (head_wrote lines wanted said) ≤ 2
head_wrote_calls lines wanted (yields done) = head_goes_on_calls lines wanted
head_wrote_calls lines wanted denies = omega arith
head_wrote_calls lines wanted strays = omega arith

wc_got_calls : (l w c : ℕ) (inside : Bool) (name : Name) (got : Answer Bytes) (paid : ℕ) → 2 * bytes_told got ≤ paid → calls_by (wc_got l w c inside name got) ≤ 1 + paid
wc_got_calls l w c inside name denies paid few = omega arith
wc_got_calls l w c inside name strays paid few = omega arith
wc_got_calls l w c inside name (yields []) paid few = omega arith
wc_got_calls l w c inside name (yields (byte ∷ bytes)) paid few = omega (arith, few)

-- grep writes no more lines of its buffer than there are LFs in it
abbrev BufferCalls : Bytes → Bytes → Type 0
BufferCalls pattern buffer = calls_by (grep_goes_on pattern buffer) ≤ line_ends buffer + 1

no_line_calls : (pattern buffer : Bytes) → tested buffer ≡ [] → BufferCalls pattern buffer
no_line_calls pattern buffer nothing =
    subst (λ (s : Step). calls_by s ≤ line_ends buffer + 1) (sym (ap (λ ls. grep_lines pattern ls buffer) nothing)) (go (nat_le 1023 (length buffer)))
  where
    go : (full : Bool) → calls_by (if full then finishes else reads (1023 - length buffer) (grep_reads pattern buffer)) ≤ line_ends buffer + 1
    go true = omega arith
    go false = omega arith

line_calls : (pattern line rest : Bytes) → HasNoLf line → is_whole line ≡ true → BufferCalls pattern rest → BufferCalls pattern (line ++ 10 ∷ rest)
line_calls pattern line rest none whole again = go (matches pattern line) refl
  where
    one : line_ends (10 ∷ rest) ≡ 1 + line_ends rest
    one = line_ends_more (10 ∷ []) rest

    more : line_ends rest < line_ends (line ++ 10 ∷ rest)
    more = omega (arith, line_ends_more line (10 ∷ rest), one)

    go : (is : Bool) → matches pattern line ≡ is → BufferCalls pattern (line ++ 10 ∷ rest)
    go true is = subst (λ (s : Step). calls_by s ≤ line_ends (line ++ 10 ∷ rest) + 1) (sym (at_match pattern line rest (line ++ 10 ∷ rest) none refl whole is)) (omega (arith, more))
    go false is = subst (λ (s : Step). calls_by s ≤ line_ends (line ++ 10 ∷ rest) + 1) (sym (at_other pattern line rest (line ++ 10 ∷ rest) none refl whole is)) (omega (arith, more, again))

buffer_calls : (pattern buffer : Bytes) → calls_by (grep_goes_on pattern buffer) ≤ line_ends buffer + 1
buffer_calls pattern buffer = by_lines (BufferCalls pattern) (no_line_calls pattern) (line_calls pattern) (length buffer) buffer (omega arith)

-- a byte that is read is at most one LF more in it
ends_in_block : (bytes : Bytes) → line_ends (block bytes) ≤ line_ends bytes
ends_in_block bytes = omega (arith, ap line_ends (take-append-drop block_size bytes), line_ends_more (block bytes) (drop block_size bytes))

few_ends : (bytes : Bytes) → line_ends bytes ≤ length bytes
few_ends bytes = count_by-le-length (λ byte. byte == 10) bytes

grep_got_calls : (pattern kept : Bytes) (got : Answer Bytes) (paid : ℕ) → 2 * bytes_told got ≤ paid → calls_by (grep_got pattern kept got) ≤ line_ends kept + paid
grep_got_calls pattern kept denies paid few = omega arith
grep_got_calls pattern kept strays paid few = omega arith
grep_got_calls pattern kept (yields []) paid few = omega arith
grep_got_calls pattern kept (yields (byte ∷ bytes)) paid few =
    let b = byte ∷ bytes in
    omega (arith, few, buffer_calls pattern (block (kept ++ b)), ends_in_block (kept ++ b), line_ends_more kept b, few_ends b)

work_calls : (work : Work) (name : Name) (reply : Reply) (paid : ℕ) → 2 * bytes_told (bytes_in reply) ≤ paid → calls_by (work_step work name reply) ≤ calls_in work + paid
work_calls cat_reads name reply paid few = cat_got_calls (bytes_in reply) paid few
work_calls cat_writes name reply paid few = omega (arith, cat_wrote_calls (done_in reply))
work_calls (head_reads lines wanted) name reply paid few = head_got_calls lines wanted (bytes_in reply) paid few
work_calls (head_writes lines wanted) name reply paid few = omega (arith, head_wrote_calls lines wanted (done_in reply))
work_calls (wc_reads l w c inside) name reply paid few = wc_got_calls l w c inside name (bytes_in reply) paid few
work_calls wc_writes name reply paid few = omega arith
work_calls (grep_reads pattern kept) name reply paid few = grep_got_calls pattern kept (bytes_in reply) paid few
work_calls (grep_writes pattern rest) name reply paid few = omega (arith, buffer_calls pattern rest)

first_calls : (filter : Filter) → calls_by (first_step filter) ≤ 2
first_calls copying = omega arith
first_calls (heading lines) = head_goes_on_calls lines lines
first_calls counting = omega arith
first_calls (searching pattern) = omega arith

-- the inputs one by one

next_goes : (most credit : ℕ) (filter : Filter) (names : List Name) → 2 ≤ most → 4 * length names + 1 ≤ credit → Goes most credit (opens_next filter names)
next_goes most credit filter [] wide few = inl refl
next_goes most credit filter (name ∷ later) wide few = inr (omega (arith, few), wide)

opened_goes : (most credit : ℕ) (filter : Filter) (name : Name) (later : List Name) (granted : Answer ℕ) → 2 ≤ most → 4 * length later + 4 ≤ credit → Goes most credit (opened_by filter name later granted)
opened_goes most credit filter name later denies wide few = inr (omega (arith, few), wide)
opened_goes most credit filter name later strays wide few = inl refl
opened_goes most credit filter name later (yields fd) wide few = step_goes most credit (first_step filter) filter (file fd name later) wide (omega (arith, few, first_calls filter))

filter_goes : (most credit : ℕ) (filter : Filter) (names : List Name) → 2 ≤ most → 4 * length names + 3 ≤ credit → Goes most credit (begins_filter filter names)
filter_goes most credit filter [] wide few = step_goes most credit (first_step filter) filter standard wide (omega (arith, few, first_calls filter))
filter_goes most credit filter (name ∷ later) wide few = next_goes most credit filter (name ∷ later) wide (omega (arith, few))

head_names : (arguments : List Bytes) → length (head_files arguments) ≤ length arguments
head_names [] = omega arith
head_names (argument ∷ later) = go (is_count argument) (is_option argument)
  where
    go : (count option : Bool) → length (if count then later else (if option then [] else argument ∷ later)) ≤ length (argument ∷ later)
    go true option = omega arith
    go false true = omega arith
    go false false = omega arith

head_goes : (most credit : ℕ) (wrong : Bool) (arguments : List Bytes) → 2 ≤ most → 4 * length arguments + 3 ≤ credit → Goes most credit (begins_head wrong arguments)
head_goes most credit true arguments wide few = inr (omega (arith, few), wide)
head_goes most credit false arguments wide few = filter_goes most credit (heading (line_count arguments)) (head_files arguments) wide (omega (arith, few, head_names arguments))

echo_goes : (most credit : ℕ) (arguments : List Bytes) → 2 ≤ most → 2 * length arguments + 1 ≤ credit → Goes most credit (echo_next arguments)
echo_goes most credit [] wide few = inl refl
echo_goes most credit (argument ∷ later) wide few = inr (omega (arith, few), wide)

echo_end_goes : (most credit : ℕ) (later : List Bytes) → 2 ≤ most → 2 * length later + 2 ≤ credit → Goes most credit (echo_end later)
echo_end_goes most credit [] wide few = inr (omega (arith, few), wide)
echo_end_goes most credit (argument ∷ later) wide few = inr (omega (arith, few), wide)

-- tee

tee_next_goes : (most credit : ℕ) (fds : List ℕ) (names : List Name) → length fds + length names + 2 ≤ most → length names + 3 ≤ credit → Goes most credit (tee_opens_next fds names)
tee_next_goes most credit fds [] wide few = inr (omega (arith, few), omega (arith, wide))
tee_next_goes most credit fds (name ∷ later) wide few = inr (omega (arith, few), omega (arith, wide))

tee_opened_goes : (most credit : ℕ) (fds : List ℕ) (name : Name) (later : List Name) (granted : Answer ℕ) → length fds + length later + 3 ≤ most → length later + 3 ≤ credit → Goes most credit (tee_opened fds name later granted)
tee_opened_goes most credit fds name later denies wide few = inr (omega (arith, few), omega (arith, wide))
tee_opened_goes most credit fds name later strays wide few = inl refl
tee_opened_goes most credit fds name later (yields fd) wide few = go (nat_lt (length fds) 16)
  where
    go : (room : Bool) → Goes most credit (if room then tee_opens_next (fds ++ fd ∷ []) later else tee_cannot_open name)
    go true = tee_next_goes most credit (fds ++ fd ∷ []) later (omega (arith, wide, length-append fds (fd ∷ []))) few
    go false = inr (omega (arith, few), omega (arith, wide))

tee_got_goes : (most credit : ℕ) (fds : List ℕ) (got : Answer Bytes) → length fds + 2 ≤ most → bytes_told got * most + 2 ≤ credit → Goes most credit (tee_got fds got)
tee_got_goes most credit fds denies wide few = inr (omega (arith, few), omega (arith, wide))
tee_got_goes most credit fds strays wide few = inl refl
tee_got_goes most credit fds (yields []) wide few = inl refl
tee_got_goes most credit fds (yields (byte ∷ bytes)) wide few =
    let some : 1 * most ≤ length (byte ∷ bytes) * most = mul-le-mul_right most (omega arith) in
    inr (omega (arith, few, some, wide), wide)

gives_goes : (most credit : ℕ) (fds : List ℕ) (at : ℕ) (bytes : Bytes) → length fds + 2 ≤ most → length fds - at + 3 ≤ credit → Goes most credit (tee_gives_next fds at bytes)
gives_goes most credit fds at bytes wide few = go (nat_lt at (length fds)) refl
  where
    go : (more : Bool) → nat_lt at (length fds) ≡ more → Goes most credit (if more then record { call = Write (slice_index_or fds at 0) bytes; next = tees (tee_gives fds at bytes) } else tee_waits fds)
    go true e = let inside : at < length fds = grind (arith, nat_tests) in inr (omega (arith, few, inside), wide)
    go false e = inr (omega (arith, few), wide)

wrote_goes : (most credit : ℕ) (fds : List ℕ) (at : ℕ) (bytes : Bytes) (said : Answer (Unit {0})) → length fds + 2 ≤ most → length fds - at + 3 ≤ credit → Goes most credit (tee_wrote fds at bytes said)
wrote_goes most credit fds at bytes (yields done) wide few = gives_goes most credit fds at bytes wide few
wrote_goes most credit fds at bytes denies wide few = inr (omega (arith, few), omega (arith, wide))
wrote_goes most credit fds at bytes strays wide few = inl refl

tee_goes : (most : ℕ) (tee : Tee) (reply : Reply) → tee_width tee ≤ most → Goes most (calls_of_tee tee + bytes_told (bytes_in reply) * most) (tee_turn tee reply)
tee_goes most (tee_opens fds name later) reply wide = tee_opened_goes most _ fds name later (fd_in reply) wide (omega arith)
tee_goes most (tee_reads fds) reply wide = tee_got_goes most _ fds (bytes_in reply) wide (omega arith)
tee_goes most (tee_writes fds bytes) reply wide = wrote_goes most _ fds 0 bytes (done_in reply) wide (omega arith)
tee_goes most (tee_gives fds at bytes) reply wide = wrote_goes most _ fds (at + 1) bytes (done_in reply) wide (omega arith)

-- any program

program_goes : (most credit : ℕ) (program : Program) (arguments : List Bytes) → length arguments + 2 ≤ most → 4 * length arguments + 8 ≤ credit → Goes most credit (begins_program program arguments)
program_goes most credit Cat arguments wide few = filter_goes most credit copying arguments (omega (arith, wide)) (omega (arith, few))
program_goes most credit Echo arguments wide few = echo_goes most credit arguments (omega (arith, wide)) (omega (arith, few))
program_goes most credit Grep [] wide few = inr (omega (arith, few), omega (arith, wide))
program_goes most credit Grep (pattern ∷ names) wide few = filter_goes most credit (searching pattern) names (omega (arith, wide)) (omega (arith, few))
program_goes most credit Head arguments wide few = head_goes most credit (has_wrong_option arguments) arguments (omega (arith, wide)) (omega (arith, few))
program_goes most credit Tee' arguments wide few = tee_next_goes most credit [] arguments (omega (arith, wide)) (omega (arith, few))
program_goes most credit Wc arguments wide few = filter_goes most credit counting arguments (omega (arith, wide)) (omega (arith, few))

closed_goes : (most credit : ℕ) (filter : Filter) (later : List Name) (said : Answer (Unit {0})) → 2 ≤ most → 4 * length later + 1 ≤ credit → Goes most credit (closed_by filter later said)
closed_goes most credit filter later (yields done) wide few = next_goes most credit filter later wide few
closed_goes most credit filter later denies wide few = inl refl
closed_goes most credit filter later strays wide few = inl refl

pub turn_goes : (most : ℕ) (state : State) (reply : Reply) → width state ≤ most → Goes most (calls_left state + bytes_told (bytes_in reply) * most) (turn state reply)
turn_goes most (begins program arguments) reply wide = program_goes most _ program arguments wide (omega arith)
turn_goes most (echo_word later) reply wide = echo_end_goes most _ later wide (omega arith)
turn_goes most (echo_space later) reply wide = echo_goes most _ later wide (omega arith)
turn_goes most (opens filter name later) reply wide = opened_goes most _ filter name later (fd_in reply) wide (omega arith)
turn_goes most (works work source) reply wide =
    let n = bytes_told (bytes_in reply) in
    let twice : n * 2 ≤ n * most = mul-le-mul_left n wide in
    step_goes most _ (work_step work (name_of source) reply) (filter_of work) source wide (omega (arith, work_calls work (name_of source) reply (n * most) (omega (arith, twice))))
turn_goes most (closes filter later) reply wide = closed_goes most _ filter later (done_in reply) wide (omega arith)
turn_goes most (tees tee) reply wide = tee_goes most tee reply wide
turn_goes most told reply wide = inl refl
turn_goes most ended reply wide = inl refl

-- over any replies
pub exits_within : (most : ℕ) (replies : List Reply) (state : State) (count : ℕ) → width state ≤ most → calls_left state + bytes_read replies * most ≤ count → count ≤ length replies →
    Among Exit (take count (calls_on state replies))
exits_within most [] state count wide enough long = absurd (omega (arith, enough, long, some_left state))
exits_within most (reply ∷ replies) state zero wide enough long = absurd (omega (arith, enough, some_left state))
exits_within most (reply ∷ replies) state (suc count) wide enough long =
    go (turn_goes most state reply wide) (λ wide enough. exits_within most replies (turn state reply).next count wide enough (omega (arith, long)))
  where
    go : Goes most (calls_left state + bytes_told (bytes_in reply) * most) (turn state reply) →
        (width (turn state reply).next ≤ most → calls_left (turn state reply).next + bytes_read replies * most ≤ count → Among Exit (take count (calls_on (turn state reply).next replies))) →
        (Exit ≡ (turn state reply).call) ⊎ Among Exit (take count (calls_on (turn state reply).next replies))
    go (inl exits) later = inl (sym exits)
    go (inr (less, wide)) later = inr (later wide (omega (arith, less, enough, add-mul (bytes_told (bytes_in reply)) (bytes_read replies) most)))

pub exits : (program : Program) (arguments : List Bytes) (replies : List Reply) → most_calls arguments replies ≤ length replies → Among Exit (take (most_calls arguments replies) (calls_on (begins program arguments) replies))
exits program arguments replies long =
    exits_within (length arguments + 2) replies (begins program arguments) (most_calls arguments replies) (omega arith)
    (omega (arith, add-mul (bytes_read replies) 4 (length arguments + 2))) long
