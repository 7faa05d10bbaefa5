-- What a program may still open and write, and whether it still reads standard input, only shrinks, whatever it is answered.
use Rattle.std.proofs.Common.{◌≡◌, ◌∙◌, ℕ, ◌+◌, ◌==◌, nat_lt, Bool, true, false, List, [], ◌∷◌, ◌++◌, length, refl, sym, ap}
use Rattle.std.specs.Prelude.{◌||◌, not, ◌&&◌, slice_index_or, if◌then◌else◌}
use Rattle.mem_files.specs.Name.{Name, Bytes}
use Rattle.prog_parts.specs.declared.program.Program.{Program}
use Rattle.prog_parts.specs.declared.program.Program.TheVariants.{Cat, Echo, Grep, Head, Tee as Tee', Wc}
use Rattle.prog_parts.specs.Program.{program_uses_input, is_empty}
use Rattle.prog_parts.specs.Head.{head_files, has_wrong_option, line_count}
use Rattle.prog_parts.specs.NameSets.{among}
use Rattle.user_calls.specs.declared.calls.Call.TheVariants.{Write}
use Rattle.user_calls.specs.declared.calls.Reply.{Reply}
use Rattle.user_progs.specs.State.{Filter, copying, heading, counting, searching, Source, standard, file, Tee, tee_opens, tee_reads, tee_writes, tee_gives, State, begins, echo_word, echo_space, opens, works, closes, tees, told, ended}
use Rattle.user_progs.specs.Turn.{Answer, yields, denies, strays, Step, reads, writes, finishes, fails, quits, closed_by, bytes_in, fd_in, done_in, turn, turn_by, first_step, work_step, filter_of, name_of, opened_by, opens_next, begins_filter, begins_head, begins_program, echo_next, echo_end, tee_waits, tee_opens_next, tee_opened, tee_cannot_open, tee_got, tee_gives_next, tee_wrote, tee_turn}
use Rattle.tree_model.specs.Ahead.{source_opens, tee_opens_still, still_opens, still_writes, source_uses, still_uses}
use Rattle.meaning_model.proofs.Bools.{not_left, not_right}

-- a state opens, writes and uses no more than these say
record Within (name : Name) (opening writing using : Bool) (state : State) : Type 0 where
  pub opens : opening ≡ false → still_opens state name ≡ false
  pub writes : writing ≡ false → still_writes state name ≡ false
  pub uses : using ≡ false → still_uses state ≡ false

none_left : (name : Name) (opening writing uses : Bool) (state : State) → still_opens state name ≡ false → still_writes state name ≡ false → still_uses state ≡ false → Within name opening writing uses state
none_left name opening writing uses state a b c = record { opens = λ e. a; writes = λ e. b; uses = λ e. c }

step_within : (name : Name) (writing : Bool) (step : Step) (filter : Filter) (source : Source) → Within name (source_opens source name) writing (source_uses source) (turn_by step filter source).next
step_within name writing (reads most work) filter source = record { opens = λ e. e; writes = λ e. refl; uses = λ e. e }
step_within name writing (writes bytes work) filter source = record { opens = λ e. e; writes = λ e. refl; uses = λ e. e }
step_within name writing finishes filter standard = none_left name _ writing _ ended refl refl refl
step_within name writing finishes filter (file fd current later) = record { opens = λ e. e; writes = λ e. refl; uses = λ e. refl }
step_within name writing (fails message) filter source = none_left name _ writing _ told refl refl refl
step_within name writing quits filter source = none_left name _ writing _ ended refl refl refl

next_within : (name : Name) (writing uses : Bool) (filter : Filter) (names : List Name) → Within name (among names name) writing uses (opens_next filter names).next
next_within name writing uses filter [] = none_left name _ writing uses ended refl refl refl
next_within name writing uses filter (current ∷ later) = record { opens = λ e. e; writes = λ e. refl; uses = λ e. refl }

opened_within : (name : Name) (writing uses : Bool) (filter : Filter) (current : Name) (later : List Name) (granted : Answer ℕ) → Within name (among (current ∷ later) name) writing uses (opened_by filter current later granted).next
opened_within name writing uses filter current later denies = none_left name _ writing uses told refl refl refl
opened_within name writing uses filter current later strays = none_left name _ writing uses ended refl refl refl
opened_within name writing uses filter current later (yields fd) =
    let in_file = step_within name writing (first_step filter) filter (file fd current later) in
    record { opens = λ e. in_file.opens (not_right _ (among later name) e); writes = in_file.writes; uses = λ e. in_file.uses refl }

filter_within : (name : Name) (writing uses : Bool) (filter : Filter) (names : List Name) → (names ≡ [] → uses ≡ true) → Within name (among names name) writing uses (begins_filter filter names).next
filter_within name writing uses filter [] used =
    let alone = step_within name writing (first_step filter) filter standard in
    record { opens = λ e. alone.opens refl; writes = alone.writes; uses = λ e. let never : true ≡ false = sym (used refl) ∙ e in cc }
filter_within name writing uses filter (current ∷ later) used = next_within name writing uses filter (current ∷ later)

-- tee
waits_within : (name : Name) (opening writing : Bool) (fds : List ℕ) → Within name opening writing true (tee_waits fds).next
waits_within name opening writing fds = record { opens = λ e. refl; writes = λ e. refl; uses = λ e. e }

tee_next_within : (name : Name) (fds : List ℕ) (names : List Name) → Within name (among names name) (among names name) true (tee_opens_next fds names).next
tee_next_within name fds [] = waits_within name _ _ fds
tee_next_within name fds (current ∷ later) = record { opens = λ e. e; writes = λ e. e; uses = λ e. e }

tee_opened_within : (name : Name) (fds : List ℕ) (current : Name) (later : List Name) (granted : Answer ℕ) → Within name (among (current ∷ later) name) (among (current ∷ later) name) true (tee_opened fds current later granted).next
tee_opened_within name fds current later denies = none_left name _ _ _ told refl refl refl
tee_opened_within name fds current later strays = none_left name _ _ _ ended refl refl refl
tee_opened_within name fds current later (yields fd) = go (nat_lt (length fds) 16)
  where
    next : Within name (among later name) (among later name) true (tee_opens_next (fds ++ fd ∷ []) later).next
    next = tee_next_within name (fds ++ fd ∷ []) later

    go : (room : Bool) → Within name (among (current ∷ later) name) (among (current ∷ later) name) true (if room then tee_opens_next (fds ++ fd ∷ []) later else tee_cannot_open current).next
    go true = record { opens = λ e. next.opens (not_right _ (among later name) e); writes = λ e. next.writes (not_right _ (among later name) e); uses = next.uses }
    go false = none_left name _ _ _ told refl refl refl

tee_got_within : (name : Name) (opening writing : Bool) (fds : List ℕ) (got : Answer Bytes) → Within name opening writing true (tee_got fds got).next
tee_got_within name opening writing fds denies = none_left name _ _ _ told refl refl refl
tee_got_within name opening writing fds strays = none_left name _ _ _ ended refl refl refl
tee_got_within name opening writing fds (yields []) = none_left name _ _ _ ended refl refl refl
tee_got_within name opening writing fds (yields (byte ∷ bytes)) = record { opens = λ e. refl; writes = λ e. refl; uses = λ e. e }

gives_within : (name : Name) (opening writing : Bool) (fds : List ℕ) (at : ℕ) (bytes : Bytes) → Within name opening writing true (tee_gives_next fds at bytes).next
gives_within name opening writing fds at bytes = go (nat_lt at (length fds))
  where
    go : (is : Bool) → Within name opening writing true (if is then record { call = Write (slice_index_or fds at 0) bytes; next = tees (tee_gives fds at bytes) } else tee_waits fds).next
    go true = record { opens = λ e. refl; writes = λ e. refl; uses = λ e. e }
    go false = waits_within name opening writing fds

wrote_within : (name : Name) (opening writing : Bool) (fds : List ℕ) (at : ℕ) (bytes : Bytes) (said : Answer (Unit {0})) → Within name opening writing true (tee_wrote fds at bytes said).next
wrote_within name opening writing fds at bytes (yields done) = gives_within name opening writing fds at bytes
wrote_within name opening writing fds at bytes denies = none_left name _ _ _ told refl refl refl
wrote_within name opening writing fds at bytes strays = none_left name _ _ _ ended refl refl refl

tee_within : (name : Name) (tee : Tee) (reply : Reply) → Within name (tee_opens_still tee name) (tee_opens_still tee name) true (tee_turn tee reply).next
tee_within name (tee_opens fds current later) reply = tee_opened_within name fds current later (fd_in reply)
tee_within name (tee_reads fds) reply = tee_got_within name _ _ fds (bytes_in reply)
tee_within name (tee_writes fds bytes) reply = wrote_within name _ _ fds 0 bytes (done_in reply)
tee_within name (tee_gives fds at bytes) reply = wrote_within name _ _ fds (at + 1) bytes (done_in reply)

echo_within : (name : Name) (opening writing uses : Bool) (arguments : List Bytes) → Within name opening writing uses (echo_next arguments).next
echo_within name opening writing uses [] = none_left name _ _ _ ended refl refl refl
echo_within name opening writing uses (argument ∷ later) = none_left name _ _ _ (echo_word later) refl refl refl

echo_end_within : (name : Name) (opening writing uses : Bool) (later : List Bytes) → Within name opening writing uses (echo_end later).next
echo_end_within name opening writing uses [] = none_left name _ _ _ told refl refl refl
echo_end_within name opening writing uses (argument ∷ later) = none_left name _ _ _ (echo_space (argument ∷ later)) refl refl refl

-- of a reader's names, those that it reads
reader : (name : Name) (reading writing uses : Bool) (state : State) → Within name reading writing uses state → Within name (reading || writing) writing uses state
reader name reading writing uses state within = record { opens = λ e. within.opens (not_left reading writing e); writes = within.writes; uses = within.uses }

head_within : (name : Name) (arguments : List Bytes) → Within name (among (head_files arguments) name) false (program_uses_input Head arguments) (begins_head (has_wrong_option arguments) arguments).next
head_within name arguments = go (has_wrong_option arguments) refl
  where
    go : (wrong : Bool) → has_wrong_option arguments ≡ wrong → Within name (among (head_files arguments) name) false (program_uses_input Head arguments) (begins_head wrong arguments).next
    go true e = none_left name _ _ _ told refl refl refl
    go false e = filter_within name false (program_uses_input Head arguments) (heading (line_count arguments)) (head_files arguments) (λ none i. is_empty (none i) && not (e i))

begins_within : (name : Name) (program : Program) (arguments : List Bytes) → Within name (still_opens (begins program arguments) name) (still_writes (begins program arguments) name) (program_uses_input program arguments) (begins_program program arguments).next
begins_within name Cat arguments = reader name _ _ _ _ (filter_within name false (program_uses_input Cat arguments) copying arguments (λ none. ap is_empty none))
begins_within name Echo arguments = echo_within name _ _ _ arguments
begins_within name Grep [] = none_left name _ _ _ told refl refl refl
begins_within name Grep (pattern ∷ names) = reader name _ _ _ _ (filter_within name false (program_uses_input Grep (pattern ∷ names)) (searching pattern) names (λ none. ap (λ (ns : List Bytes). length (pattern ∷ ns) == 1) none))
begins_within name Head arguments = reader name _ _ _ _ (head_within name arguments)
begins_within name Tee' arguments = tee_next_within name [] arguments
begins_within name Wc arguments = reader name _ _ _ _ (filter_within name false (program_uses_input Wc arguments) counting arguments (λ none. ap is_empty none))

closed_within : (name : Name) (writing uses : Bool) (filter : Filter) (later : List Name) (said : Answer (Unit {0})) → Within name (among later name) writing uses (closed_by filter later said).next
closed_within name writing uses filter later (yields done) = next_within name writing uses filter later
closed_within name writing uses filter later denies = none_left name _ writing uses ended refl refl refl
closed_within name writing uses filter later strays = none_left name _ writing uses ended refl refl refl

turn_within : (name : Name) (state : State) (reply : Reply) → Within name (still_opens state name) (still_writes state name) (still_uses state) (turn state reply).next
turn_within name (begins program arguments) reply = begins_within name program arguments
turn_within name (echo_word later) reply = echo_end_within name _ _ _ later
turn_within name (echo_space later) reply = echo_within name _ _ _ later
turn_within name (opens filter current later) reply = opened_within name _ _ filter current later (fd_in reply)
turn_within name (works work source) reply = step_within name _ (work_step work (name_of source) reply) (filter_of work) source
turn_within name (closes filter later) reply = closed_within name _ _ filter later (done_in reply)
turn_within name (tees tee) reply = tee_within name tee reply
turn_within name told reply = none_left name _ _ _ ended refl refl refl
turn_within name ended reply = none_left name _ _ _ ended refl refl refl

pub opens_shrink : (state : State) (reply : Reply) (name : Name) → still_opens state name ≡ false → still_opens (turn state reply).next name ≡ false
opens_shrink state reply name = (turn_within name state reply).opens

pub writes_shrink : (state : State) (reply : Reply) (name : Name) → still_writes state name ≡ false → still_writes (turn state reply).next name ≡ false
writes_shrink state reply name = (turn_within name state reply).writes

pub uses_shrink : (state : State) (reply : Reply) → still_uses state ≡ false → still_uses (turn state reply).next ≡ false
uses_shrink state reply = (turn_within [] state reply).uses
