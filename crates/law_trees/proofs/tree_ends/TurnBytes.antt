-- What a program's next call writes, and what comes after it, it was still to write.
use Rattle.std.proofs.Common.{◌≡◌, ℕ, zero, suc, ◌+◌, ◌-◌, ◌*◌, ◌<◌, ◌≤◌, nat_lt, Bool, true, false, List, [], ◌∷◌, ◌++◌, length, refl, ap, subst, arith, ◌∙◌}
use Rattle.std.specs.Prelude.{slice_index_or, if◌then◌else◌}
use Rattle.std.proofs.lemmas.Bool.Decides.{nat_tests}
use Rattle.std.proofs.lemmas.List.{length-append}
use Rattle.std.proofs.Math.Nat.{add-mul, mul-le-mul_right}
use Rattle.mem_files.specs.Name.{Name, Bytes}
use Rattle.prog_parts.specs.declared.program.Program.{Program}
use Rattle.prog_parts.specs.declared.program.Program.TheVariants.{Cat, Echo, Grep, Head, Tee as Tee', Wc}
use Rattle.prog_parts.specs.Head.{head_files, has_wrong_option, line_count}
use Rattle.user_calls.specs.declared.calls.Call.TheVariants.{Write}
use Rattle.user_calls.specs.declared.calls.Reply.{Reply}
use Rattle.meaning_model.specs.Programs.{echo_out}
use Rattle.user_progs.specs.State.{Filter, copying, heading, counting, searching, standard, file, Work, cat_reads, cat_writes, head_reads, head_writes, wc_reads, wc_writes, grep_reads, grep_writes, Tee, tee_opens, tee_reads, tee_writes, tee_gives, State, begins, echo_word, echo_space, opens, works, closes, tees, told, ended}
use Rattle.user_progs.specs.Turn.{Answer, yields, denies, strays, bytes_in, fd_in, done_in, closed_by, turn, first_step, work_step, filter_of, name_of, opened_by, opens_next, begins_filter, begins_head, begins_program, echo_next, echo_end, tee_waits, tee_opens_next, tee_opened, tee_cannot_open, tee_got, tee_gives_next, tee_wrote, tee_turn}
use Rattle.tree_model.specs.Exits.{bytes_told}
use Rattle.tree_model.specs.Still.{echo_rest}
use Rattle.law_trees.proofs.tree_ends.WorkBytes.{Pays, block_few, step_bytes, IsOf, step_pays, head_goes_pays, work_pays}
use Rattle.tree_model.specs.ProgramBytes.{write_bytes, passes, for_each, work_bytes, tee_bytes, begin_bytes, later_bytes}

-- the inputs one by one

first_pays : (filter : Filter) (r : ℕ) → (step_bytes (first_step filter) filter r ≤ passes filter r + for_each filter) × IsOf (first_step filter) filter
first_pays copying r = (omega arith, refl)
first_pays (heading lines) r = let h = head_goes_pays lines lines r r (omega arith) in (omega (arith, h.0), h.1)
first_pays counting r = (omega arith, refl)
first_pays (searching pattern) r = (omega arith, refl)

pub passes_more : (filter : Filter) (r more : ℕ) → more ≤ r → passes filter more ≤ passes filter r
passes_more copying r more few = few
passes_more (heading lines) r more few = few
passes_more counting r more few = omega arith
passes_more (searching pattern) r more few = few

pub next_pays : (filter : Filter) (names : List Name) (r : ℕ) → Pays r (passes filter r + for_each filter * length names) (opens_next filter names)
next_pays filter [] r = omega arith
next_pays filter (name ∷ later) r = omega arith

pub opened_pays : (filter : Filter) (name : Name) (later : List Name) (granted : Answer ℕ) (r : ℕ) → Pays r (passes filter r + for_each filter * (length later + 1)) (opened_by filter name later granted)
opened_pays filter name later (yields fd) r =
    let h = first_pays filter r in
    omega (arith, step_pays r (passes filter r + for_each filter) (first_step filter) filter (file fd name later) h.1 h.0)
opened_pays filter name later denies r = omega arith
opened_pays filter name later strays r = omega arith

pub filter_pays : (filter : Filter) (names : List Name) (r : ℕ) → Pays r (passes filter r + for_each filter * (length names + 1)) (begins_filter filter names)
filter_pays filter [] r = let h = first_pays filter r in omega (arith, step_pays r (passes filter r + for_each filter) (first_step filter) filter standard h.1 h.0)
filter_pays filter (name ∷ later) r = omega (arith, next_pays filter (name ∷ later) r)

pub head_pays : (wrong : Bool) (arguments : List Bytes) (r : ℕ) → Pays r r (begins_head wrong arguments)
head_pays true arguments r = omega arith
head_pays false arguments r = omega (arith, filter_pays (heading (line_count arguments)) (head_files arguments) r)

pub grep_pays : (arguments : List Bytes) (r : ℕ) → Pays r r (begins_program Grep arguments)
grep_pays [] r = omega arith
grep_pays (pattern ∷ names) r = omega (arith, filter_pays (searching pattern) names r)

pub echo_pays : (arguments : List Bytes) (r : ℕ) → Pays r (length (echo_out arguments)) (echo_next arguments)
echo_pays [] r = omega arith
echo_pays (argument ∷ []) r = omega (arith, block_few argument, length-append argument (10 ∷ []))
echo_pays (argument ∷ next ∷ later) r = omega (arith, block_few argument, length-append argument (32 ∷ echo_out (next ∷ later)))

pub echo_end_pays : (later : List Bytes) (r : ℕ) → Pays r (length (echo_rest later)) (echo_end later)
echo_end_pays [] r = omega arith
echo_end_pays (argument ∷ later) r = omega arith

-- tee

tee_next_pays : (fds : List ℕ) (names : List Name) (r : ℕ) → Pays r (r * (length fds + length names + 1)) (tee_opens_next fds names)
tee_next_pays fds [] r = omega arith
tee_next_pays fds (name ∷ later) r = omega arith

tee_opened_pays : (fds : List ℕ) (name : Name) (later : List Name) (granted : Answer ℕ) (r : ℕ) → Pays r (r * (length fds + length later + 2)) (tee_opened fds name later granted)
tee_opened_pays fds name later denies r = omega arith
tee_opened_pays fds name later strays r = omega arith
tee_opened_pays fds name later (yields fd) r = go (nat_lt (length fds) 16)
  where
    size : length (fds ++ fd ∷ []) + length later + 1 ≡ length fds + length later + 2
    size = omega (arith, length-append fds (fd ∷ []))

    go : (room : Bool) → Pays r (r * (length fds + length later + 2)) (if room then tee_opens_next (fds ++ fd ∷ []) later else tee_cannot_open name)
    go true = subst (λ k. Pays r (r * k) (tee_opens_next (fds ++ fd ∷ []) later)) size (tee_next_pays (fds ++ fd ∷ []) later r)
    go false = omega arith

to_file : (fd : ℕ) (bytes : Bytes) → write_bytes fd bytes 0 ≤ length bytes
to_file zero bytes = omega arith
to_file (suc zero) bytes = omega arith
to_file (suc (suc zero)) bytes = omega arith
to_file (suc (suc (suc fd))) bytes = omega arith

gives_pays : (fds : List ℕ) (at : ℕ) (bytes : Bytes) (r : ℕ) → Pays r (length bytes * (length fds - at) + r * (length fds + 1)) (tee_gives_next fds at bytes)
gives_pays fds at bytes r = go (nat_lt at (length fds)) refl
  where
    go : (more : Bool) → nat_lt at (length fds) ≡ more → Pays r (length bytes * (length fds - at) + r * (length fds + 1)) (if more then record { call = Write (slice_index_or fds at 0) bytes; next = tees (tee_gives fds at bytes) } else tee_waits fds)
    go true e =
        let inside : at < length fds = grind (arith, nat_tests) in
        let one : length fds - at ≡ (length fds - (at + 1)) + 1 = omega (arith, inside) in
        let split : length bytes * (length fds - at) ≡ length bytes * (length fds - (at + 1)) + length bytes = ap (λ k. length bytes * k) one ∙ omega arith in
        omega (arith, to_file (slice_index_or fds at 0) bytes, split)
    go false e = omega arith

wrote_pays : (fds : List ℕ) (at : ℕ) (bytes : Bytes) (said : Answer (Unit {0})) (r : ℕ) → Pays r (length bytes * (length fds - at) + r * (length fds + 1)) (tee_wrote fds at bytes said)
wrote_pays fds at bytes (yields done) r = gives_pays fds at bytes r
wrote_pays fds at bytes denies r = omega arith
wrote_pays fds at bytes strays r = omega arith

got_pays : (fds : List ℕ) (got : Answer Bytes) (r more : ℕ) → more + bytes_told got ≤ r → Pays more (r * (length fds + 1)) (tee_got fds got)
got_pays fds (yields []) r more few = omega arith
got_pays fds (yields (byte ∷ bytes)) r more few =
    let k = length (byte ∷ bytes) in
    let paid : (more + k) * (length fds + 1) ≤ r * (length fds + 1) = mul-le-mul_right (length fds + 1) few in
    let split : k * (length fds + 1) ≡ k * length fds + k = omega arith in
    omega (arith, paid, add-mul more k (length fds + 1), split)
got_pays fds denies r more few = omega arith
got_pays fds strays r more few = omega arith

tee_pays : (tee : Tee) (reply : Reply) (r more : ℕ) → more + bytes_told (bytes_in reply) ≤ r → Pays more (tee_bytes tee r) (tee_turn tee reply)
tee_pays (tee_opens fds name later) reply r more few =
    let paid : more * (length fds + length later + 2) ≤ r * (length fds + length later + 2) = mul-le-mul_right (length fds + length later + 2) (omega (arith, few)) in
    omega (arith, paid, tee_opened_pays fds name later (fd_in reply) more)
tee_pays (tee_reads fds) reply r more few = got_pays fds (bytes_in reply) r more few
tee_pays (tee_writes fds bytes) reply r more few =
    let paid : more * (length fds + 1) ≤ r * (length fds + 1) = mul-le-mul_right (length fds + 1) (omega (arith, few)) in
    let all : length fds - 0 ≡ length fds = omega arith in
    omega (arith, paid, wrote_pays fds 0 bytes (done_in reply) more, ap (λ k. length bytes * k) all)
tee_pays (tee_gives fds at bytes) reply r more few =
    let paid : more * (length fds + 1) ≤ r * (length fds + 1) = mul-le-mul_right (length fds + 1) (omega (arith, few)) in
    omega (arith, paid, wrote_pays fds (at + 1) bytes (done_in reply) more)

-- any program

program_pays : (program : Program) (arguments : List Bytes) (r : ℕ) → Pays r (begin_bytes program arguments r) (begins_program program arguments)
program_pays Cat arguments r = omega (arith, filter_pays copying arguments r)
program_pays Echo arguments r = echo_pays arguments r
program_pays Grep arguments r = grep_pays arguments r
program_pays Head arguments r = head_pays (has_wrong_option arguments) arguments r
program_pays Tee' arguments r =
    let none : 0 + length arguments + 1 ≡ length arguments + 1 = omega arith in
    omega (arith, tee_next_pays [] arguments r, ap (λ k. r * k) none)
program_pays Wc arguments r = omega (arith, filter_pays counting arguments r)

begin_more : (program : Program) (arguments : List Bytes) (r more : ℕ) → more ≤ r → begin_bytes program arguments more ≤ begin_bytes program arguments r
begin_more Cat arguments r more few = few
begin_more Echo arguments r more few = omega arith
begin_more Grep arguments r more few = few
begin_more Head arguments r more few = few
begin_more Tee' arguments r more few = mul-le-mul_right (length arguments + 1) few
begin_more Wc arguments r more few = omega arith

closed_pays : (filter : Filter) (later : List Name) (said : Answer (Unit {0})) (r : ℕ) → Pays r (passes filter r + for_each filter * length later) (closed_by filter later said)
closed_pays filter later (yields done) r = next_pays filter later r
closed_pays filter later denies r = omega arith
closed_pays filter later strays r = omega arith

pub turn_pays : (state : State) (reply : Reply) (r more : ℕ) → more + bytes_told (bytes_in reply) ≤ r → Pays more (later_bytes state r) (turn state reply)
turn_pays (begins program arguments) reply r more few = omega (arith, program_pays program arguments more, begin_more program arguments r more (omega (arith, few)))
turn_pays (echo_word later) reply r more few = echo_end_pays later more
turn_pays (echo_space later) reply r more few = echo_pays later more
turn_pays (opens filter name later) reply r more few = omega (arith, opened_pays filter name later (fd_in reply) more, passes_more filter r more (omega (arith, few)))
turn_pays (works work source) reply r more few =
    let h = work_pays work (name_of source) reply r more few in
    step_pays more (work_bytes work r) (work_step work (name_of source) reply) (filter_of work) source h.1 h.0
turn_pays (closes filter later) reply r more few = omega (arith, closed_pays filter later (done_in reply) more, passes_more filter r more (omega (arith, few)))
turn_pays (tees tee) reply r more few = tee_pays tee reply r more few
turn_pays told reply r more few = omega arith
turn_pays ended reply r more few = omega arith

-- with more to read there is no less to write
tee_more : (tee : Tee) (r more : ℕ) → more ≤ r → tee_bytes tee more ≤ tee_bytes tee r
tee_more (tee_opens fds name later) r more few = mul-le-mul_right (length fds + length later + 2) few
tee_more (tee_reads fds) r more few = mul-le-mul_right (length fds + 1) few
tee_more (tee_writes fds bytes) r more few = omega (arith, mul-le-mul_right (length fds + 1) few)
tee_more (tee_gives fds at bytes) r more few = omega (arith, mul-le-mul_right (length fds + 1) few)

work_more : (work : Work) (r more : ℕ) → more ≤ r → work_bytes work more ≤ work_bytes work r
work_more cat_reads r more few = few
work_more cat_writes r more few = few
work_more (head_reads lines wanted) r more few = few
work_more (head_writes lines wanted) r more few = few
work_more (wc_reads l w c inside) r more few = omega arith
work_more wc_writes r more few = omega arith
work_more (grep_reads pattern kept) r more few = omega (arith, few)
work_more (grep_writes pattern rest) r more few = omega (arith, few)

pub later_more : (state : State) (r more : ℕ) → more ≤ r → later_bytes state more ≤ later_bytes state r
later_more (begins program arguments) r more few = begin_more program arguments r more few
later_more (echo_word later) r more few = omega arith
later_more (echo_space later) r more few = omega arith
later_more (opens filter name later) r more few = omega (arith, passes_more filter r more few)
later_more (works work source) r more few = omega (arith, work_more work r more few)
later_more (closes filter later) r more few = omega (arith, passes_more filter r more few)
later_more (tees tee) r more few = tee_more tee r more few
later_more told r more few = omega arith
later_more ended r more few = omega arith
