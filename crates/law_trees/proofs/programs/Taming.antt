-- On any replies a program makes no other calls than it may.
use Rattle.std.proofs.Common.{◌≡◌, ◌⊎◌, inl, inr, ℕ, zero, suc, ◌+◌, ◌-◌, ◌<◌, ◌≤◌, ◌==◌, nat_le, nat_lt, Bool, true, false, List, [], ◌∷◌, ◌++◌, length, drop, refl, sym, ap, subst, arith}
use Rattle.std.specs.Prelude.{not, ◌&&◌, slice_index_or, if◌then◌else◌}
use Rattle.std.proofs.lemmas.Bool.Decides.{nat_tests}
use Rattle.mem_files.specs.Name.{Name, Bytes}
use Rattle.grep_match.specs.Match.{matches}
use Rattle.prog_parts.specs.declared.program.Program.{Program}
use Rattle.prog_parts.specs.declared.program.Program.TheVariants.{Cat, Echo, Grep, Head, Tee as Tee', Wc}
use Rattle.prog_parts.specs.Program.{file_words, program_uses_input, is_empty}
use Rattle.prog_parts.specs.Head.{head_files, has_wrong_option, line_count}
use Rattle.user_calls.specs.Limits.{block_size}
use Rattle.user_calls.specs.declared.calls.Mode.TheVariants.{Input, Fresh}
use Rattle.user_calls.specs.declared.calls.Call.{Call}
use Rattle.user_calls.specs.declared.calls.Call.TheVariants.{OpenFile, Write}
use Rattle.user_calls.specs.declared.calls.Reply.{Reply}
use Rattle.prog_parts.specs.Grep.{tested}
use Rattle.user_progs.specs.State.{Filter, copying, heading, counting, searching, Source, standard, file, Work, cat_reads, cat_writes, head_reads, head_writes, wc_reads, wc_writes, grep_reads, grep_writes, Tee, tee_opens, tee_reads, tee_writes, tee_gives, State, begins, echo_word, echo_space, opens, works, closes, tees, told, ended}
use Rattle.user_progs.specs.Turn.{Answer, yields, denies, strays, Turn, Step, reads, writes, finishes, fails, quits, bytes_in, fd_in, done_in, closed_by, turn, turn_by, first_step, work_step, filter_of, name_of, block, opened_by, opens_next, begins_filter, begins_head, begins_program, echo_next, echo_end, cat_got, cat_wrote, head_got, head_goes_on, head_wrote, wc_got, grep_got, grep_lines, grep_keeps, tee_waits, tee_opens_next, tee_opened, tee_cannot_open, tee_got, tee_gives_next, tee_wrote, tee_turn}
use Rattle.tree_model.specs.Tame.{Among, mode_of, IsTame, and_opened, opened_after, AreTame}

-- a step reads or writes at least one byte, and no more than a call moves
abbrev Asks : Step → Type 0
Asks (reads most work) = (1 ≤ most) × (most ≤ block_size)
Asks (writes bytes work) = Unit {0}
Asks finishes = Unit {0}
Asks (fails message) = Unit {0}
Asks quits = Unit {0}

head_goes_on_asks : (lines wanted : ℕ) → Asks (head_goes_on lines wanted)
head_goes_on_asks lines zero = tt
head_goes_on_asks lines (suc wanted) = (omega arith, omega arith)

head_got_asks : (lines wanted : ℕ) (got : Answer Bytes) → Asks (head_got lines wanted got)
head_got_asks lines wanted denies = tt
head_got_asks lines wanted strays = tt
head_got_asks lines wanted (yields []) = tt
head_got_asks lines zero (yields (byte ∷ bytes)) = tt
head_got_asks lines (suc wanted) (yields (byte ∷ bytes)) = tt

head_wrote_asks : (lines wanted : ℕ) (said : Answer (Unit {0})) → Asks (head_wrote lines wanted said)
head_wrote_asks lines wanted (yields done) = head_goes_on_asks lines wanted
head_wrote_asks lines wanted denies = tt
head_wrote_asks lines wanted strays = tt

cat_got_asks : (got : Answer Bytes) → Asks (cat_got got)
cat_got_asks denies = tt
cat_got_asks strays = tt
cat_got_asks (yields []) = tt
cat_got_asks (yields (byte ∷ bytes)) = tt

cat_wrote_asks : (said : Answer (Unit {0})) → Asks (cat_wrote said)
cat_wrote_asks (yields done) = (omega arith, omega arith)
cat_wrote_asks denies = tt
cat_wrote_asks strays = tt

wc_got_asks : (l w c : ℕ) (inside : Bool) (name : Name) (got : Answer Bytes) → Asks (wc_got l w c inside name got)
wc_got_asks l w c inside name denies = tt
wc_got_asks l w c inside name strays = tt
wc_got_asks l w c inside name (yields []) = tt
wc_got_asks l w c inside name (yields (byte ∷ bytes)) = (omega arith, omega arith)

keeps_asks : (pattern kept : Bytes) → Asks (grep_keeps pattern kept)
keeps_asks pattern kept = go (nat_le 1023 (length kept)) refl
  where
    go : (full : Bool) → nat_le 1023 (length kept) ≡ full → Asks (if full then finishes else reads (1023 - length kept) (grep_reads pattern kept))
    go true e = tt
    go false e = let room : length kept < 1023 = grind (arith, nat_tests) in (omega (arith, room), omega (arith, room))

lines_ask : (pattern : Bytes) (lines : List Bytes) (buffer : Bytes) → Asks (grep_lines pattern lines buffer)
lines_ask pattern [] buffer = keeps_asks pattern buffer
lines_ask pattern (line ∷ lines) buffer = go (matches pattern line) (lines_ask pattern lines (drop (length line + 1) buffer))
  where
    go : (is : Bool) → Asks (grep_lines pattern lines (drop (length line + 1) buffer)) →
        Asks (if is then writes (block (line ++ 10 ∷ [])) (grep_writes pattern (drop (length line + 1) buffer)) else grep_lines pattern lines (drop (length line + 1) buffer))
    go true later = tt
    go false later = later

grep_got_asks : (pattern kept : Bytes) (got : Answer Bytes) → Asks (grep_got pattern kept got)
grep_got_asks pattern kept denies = tt
grep_got_asks pattern kept strays = tt
grep_got_asks pattern kept (yields []) = tt
grep_got_asks pattern kept (yields (byte ∷ bytes)) = lines_ask pattern (tested (block (kept ++ byte ∷ bytes))) (block (kept ++ byte ∷ bytes))

first_asks : (filter : Filter) → Asks (first_step filter)
first_asks copying = (omega arith, omega arith)
first_asks (heading lines) = head_goes_on_asks lines lines
first_asks counting = (omega arith, omega arith)
first_asks (searching pattern) = (omega arith, omega arith)

step_asks : (work : Work) (name : Name) (reply : Reply) → Asks (work_step work name reply)
step_asks cat_reads name reply = cat_got_asks (bytes_in reply)
step_asks cat_writes name reply = cat_wrote_asks (done_in reply)
step_asks (head_reads lines wanted) name reply = head_got_asks lines wanted (bytes_in reply)
step_asks (head_writes lines wanted) name reply = head_wrote_asks lines wanted (done_in reply)
step_asks (wc_reads l w c inside) name reply = wc_got_asks l w c inside name (bytes_in reply)
step_asks wc_writes name reply = tt
step_asks (grep_reads pattern kept) name reply = grep_got_asks pattern kept (bytes_in reply)
step_asks (grep_writes pattern rest) name reply = lines_ask pattern (tested rest) rest

among_last : {X : Type 0} (x : X) (xs : List X) (y : X) → Among x (xs ++ y ∷ []) → Among x xs ⊎ (x ≡ y)
among_last x [] y (inl is) = inr is
among_last x [] y (inr never) = absurd never
among_last x (z ∷ xs) y (inl is) = inl (inl is)
among_last x (z ∷ xs) y (inr is) = go (among_last x xs y is)
  where
    go : Among x xs ⊎ (x ≡ y) → Among x (z ∷ xs) ⊎ (x ≡ y)
    go (inl is) = inl (inr is)
    go (inr is) = inr is

at_among : (fds : List ℕ) (at : ℕ) → nat_lt at (length fds) ≡ true → Among (slice_index_or fds at 0) fds
at_among [] at e = absurd (let below : at < 0 = grind (arith, nat_tests) in omega (arith, below))
at_among (fd ∷ fds) zero e = inl refl
at_among (fd ∷ fds) (suc at) e = inr (at_among fds at (let below : suc at < suc (length fds) = grind (arith, nat_tests) in grind (arith, nat_tests)))

-- a call that opens and closes nothing
abbrev IsSteady : Call → Type 0
IsSteady call = (reply : Reply) (opened : List ℕ) → opened_after call reply opened ≡ opened

module _ (program : Program) (arguments : List Bytes) where
  abbrev Words : List Name → Type 0
  Words names = (name : Name) → Among name names → Among name (file_words program arguments)

  abbrev Held : List ℕ → List ℕ → Type 0
  Held opened fds = (fd : ℕ) → Among fd fds → Among fd opened

  abbrev SourceTame : List ℕ → Source → Type 0
  SourceTame opened standard = program_uses_input program arguments ≡ true
  SourceTame opened (file fd name later) = Among fd opened × Words later

  abbrev TeeTame : List ℕ → Tee → Call → Type 0
  TeeTame opened (tee_opens fds name later) call = Held opened fds × Words later × (call ≡ OpenFile (block name) Fresh)
  TeeTame opened (tee_reads fds) call = Held opened fds × IsSteady call
  TeeTame opened (tee_writes fds bytes) call = Held opened fds × IsSteady call
  TeeTame opened (tee_gives fds at bytes) call = Held opened fds × IsSteady call

  abbrev StateTame : List ℕ → State → Call → Type 0
  StateTame opened (begins p a) call = ⊥
  StateTame opened (echo_word later) call = Unit {0}
  StateTame opened (echo_space later) call = Unit {0}
  StateTame opened (opens filter name later) call = (mode_of program ≡ Input) × Words later × (call ≡ OpenFile (block name) Input)
  StateTame opened (works work source) call = (mode_of program ≡ Input) × SourceTame opened source × IsSteady call
  StateTame opened (closes filter later) call = (mode_of program ≡ Input) × Words later
  StateTame opened (tees tee) call = (mode_of program ≡ Fresh) × (program_uses_input program arguments ≡ true) × TeeTame opened tee call
  StateTame opened told call = Unit {0}
  StateTame opened ended call = Unit {0}

  abbrev TurnTame : List ℕ → Turn → Type 0
  TurnTame opened turn = StateTame opened turn.next turn.call × IsTame program arguments opened turn.call

  step_tame : (opened : List ℕ) (step : Step) (filter : Filter) (source : Source) → mode_of program ≡ Input → Asks step → SourceTame opened source → TurnTame opened (turn_by step filter source)
  step_tame opened (reads most work) filter standard mode asks tame = ((mode, tame, λ reply fds. refl), (asks.0, asks.1, inl (refl, tame)))
  step_tame opened (reads most work) filter (file fd name later) mode asks tame = ((mode, tame, λ reply fds. refl), (asks.0, asks.1, inr tame.0))
  step_tame opened (writes bytes work) filter source mode asks tame = ((mode, tame, λ reply fds. refl), inl refl)
  step_tame opened finishes filter standard mode asks tame = (tt, tt)
  step_tame opened finishes filter (file fd name later) mode asks tame = ((mode, tame.1), tame.0)
  step_tame opened (fails message) filter source mode asks tame = (tt, inr (inl refl))
  step_tame opened quits filter source mode asks tame = (tt, tt)

  next_tame : (opened : List ℕ) (filter : Filter) (names : List Name) → mode_of program ≡ Input → Words names → TurnTame opened (opens_next filter names)
  next_tame opened filter [] mode words = (tt, tt)
  next_tame opened filter (name ∷ later) mode words =
      ((mode, (λ n is. words n (inr is)), refl), (sym mode, (name, words name (inl refl), refl)))

  opened_tame : (opened : List ℕ) (filter : Filter) (name : Name) (later : List Name) (granted : Answer ℕ) → mode_of program ≡ Input → Words later →
      TurnTame (and_opened granted opened) (opened_by filter name later granted)
  opened_tame opened filter name later denies mode words = (tt, inr (inl refl))
  opened_tame opened filter name later strays mode words = (tt, tt)
  opened_tame opened filter name later (yields fd) mode words = step_tame (fd ∷ opened) (first_step filter) filter (file fd name later) mode (first_asks filter) (inl refl, words)

  echo_tame : (opened : List ℕ) (arguments : List Bytes) → TurnTame opened (echo_next arguments)
  echo_tame opened [] = (tt, tt)
  echo_tame opened (argument ∷ later) = (tt, inl refl)

  echo_end_tame : (opened : List ℕ) (later : List Bytes) → TurnTame opened (echo_end later)
  echo_end_tame opened [] = (tt, inl refl)
  echo_end_tame opened (argument ∷ later) = (tt, inl refl)

  -- tee
  abbrev TeeUses : Type 0
  TeeUses = (mode_of program ≡ Fresh) × (program_uses_input program arguments ≡ true)

  waits_tame : (opened fds : List ℕ) → TeeUses → Held opened fds → TurnTame opened (tee_waits fds)
  waits_tame opened fds uses held = ((uses.0, uses.1, (held, λ reply ds. refl)), (omega arith, omega arith, inl (refl, uses.1)))

  tee_next_tame : (opened fds : List ℕ) (names : List Name) → TeeUses → Held opened fds → Words names → TurnTame opened (tee_opens_next fds names)
  tee_next_tame opened fds [] uses held words = waits_tame opened fds uses held
  tee_next_tame opened fds (name ∷ later) uses held words =
      ((uses.0, uses.1, (held, (λ n is. words n (inr is)), refl)), (sym uses.0, (name, words name (inl refl), refl)))

  tee_opened_tame : (opened fds : List ℕ) (name : Name) (later : List Name) (granted : Answer ℕ) → TeeUses → Held opened fds → Words later →
      TurnTame (and_opened granted opened) (tee_opened fds name later granted)
  tee_opened_tame opened fds name later denies uses held words = (tt, inr (inl refl))
  tee_opened_tame opened fds name later strays uses held words = (tt, tt)
  tee_opened_tame opened fds name later (yields fd) uses held words = go (nat_lt (length fds) 16)
    where
      more : Held (fd ∷ opened) (fds ++ fd ∷ [])
      more f is = pick (among_last f fds fd is)
        where
          pick : Among f fds ⊎ (f ≡ fd) → Among f (fd ∷ opened)
          pick (inl is) = inr (held f is)
          pick (inr is) = inl is

      go : (room : Bool) → TurnTame (fd ∷ opened) (if room then tee_opens_next (fds ++ fd ∷ []) later else tee_cannot_open name)
      go true = tee_next_tame (fd ∷ opened) (fds ++ fd ∷ []) later uses more words
      go false = (tt, inr (inl refl))

  tee_got_tame : (opened fds : List ℕ) (got : Answer Bytes) → TeeUses → Held opened fds → TurnTame opened (tee_got fds got)
  tee_got_tame opened fds denies uses held = (tt, inr (inl refl))
  tee_got_tame opened fds strays uses held = (tt, tt)
  tee_got_tame opened fds (yields []) uses held = (tt, tt)
  tee_got_tame opened fds (yields (byte ∷ bytes)) uses held = ((uses.0, uses.1, (held, λ reply ds. refl)), inl refl)

  gives_tame : (opened fds : List ℕ) (at : ℕ) (bytes : Bytes) → TeeUses → Held opened fds → TurnTame opened (tee_gives_next fds at bytes)
  gives_tame opened fds at bytes uses held = go (nat_lt at (length fds)) refl
    where
      go : (is : Bool) → nat_lt at (length fds) ≡ is →
          TurnTame opened (if is then record { call = Write (slice_index_or fds at 0) bytes; next = tees (tee_gives fds at bytes) } else tee_waits fds)
      go true e = ((uses.0, uses.1, (held, λ reply ds. refl)), inr (inr (held (slice_index_or fds at 0) (at_among fds at e))))
      go false e = waits_tame opened fds uses held

  tee_wrote_tame : (opened fds : List ℕ) (at : ℕ) (bytes : Bytes) (said : Answer (Unit {0})) → TeeUses → Held opened fds → TurnTame opened (tee_wrote fds at bytes said)
  tee_wrote_tame opened fds at bytes (yields done) uses held = gives_tame opened fds at bytes uses held
  tee_wrote_tame opened fds at bytes denies uses held = (tt, inr (inl refl))
  tee_wrote_tame opened fds at bytes strays uses held = (tt, tt)

  tee_turn_tame : (opened : List ℕ) (tee : Tee) (call : Call) (reply : Reply) → TeeUses → TeeTame opened tee call →
      TurnTame (opened_after call reply opened) (tee_turn tee reply)
  tee_turn_tame opened (tee_opens fds name later) call reply uses (held, words, is) =
      subst (λ (c : Call). TurnTame (opened_after c reply opened) (tee_opened fds name later (fd_in reply))) (sym is) (tee_opened_tame opened fds name later (fd_in reply) uses held words)
  tee_turn_tame opened (tee_reads fds) call reply uses (held, steady) =
      subst (λ (ds : List ℕ). TurnTame ds (tee_got fds (bytes_in reply))) (sym (steady reply opened)) (tee_got_tame opened fds (bytes_in reply) uses held)
  tee_turn_tame opened (tee_writes fds bytes) call reply uses (held, steady) =
      subst (λ (ds : List ℕ). TurnTame ds (tee_wrote fds 0 bytes (done_in reply))) (sym (steady reply opened)) (tee_wrote_tame opened fds 0 bytes (done_in reply) uses held)
  tee_turn_tame opened (tee_gives fds at bytes) call reply uses (held, steady) =
      subst (λ (ds : List ℕ). TurnTame ds (tee_wrote fds (at + 1) bytes (done_in reply))) (sym (steady reply opened)) (tee_wrote_tame opened fds (at + 1) bytes (done_in reply) uses held)

  closed_tame : (opened : List ℕ) (filter : Filter) (later : List Name) (said : Answer (Unit {0})) → mode_of program ≡ Input → Words later → TurnTame opened (closed_by filter later said)
  closed_tame opened filter later (yields done) mode words = next_tame opened filter later mode words
  closed_tame opened filter later denies mode words = (tt, tt)
  closed_tame opened filter later strays mode words = (tt, tt)

  turn_tame : (opened : List ℕ) (state : State) (call : Call) (reply : Reply) → StateTame opened state call → TurnTame (opened_after call reply opened) (turn state reply)
  turn_tame opened (begins p a) call reply tame = absurd tame
  turn_tame opened (echo_word later) call reply tame = echo_end_tame (opened_after call reply opened) later
  turn_tame opened (echo_space later) call reply tame = echo_tame (opened_after call reply opened) later
  turn_tame opened (opens filter name later) call reply (mode, words, is) =
      subst (λ (c : Call). TurnTame (opened_after c reply opened) (opened_by filter name later (fd_in reply))) (sym is) (opened_tame opened filter name later (fd_in reply) mode words)
  turn_tame opened (works work source) call reply (mode, tame, steady) =
      subst (λ (ds : List ℕ). TurnTame ds (turn (works work source) reply)) (sym (steady reply opened))
      (step_tame opened (work_step work (name_of source) reply) (filter_of work) source mode (step_asks work (name_of source) reply) tame)
  turn_tame opened (closes filter later) call reply (mode, words) = closed_tame (opened_after call reply opened) filter later (done_in reply) mode words
  turn_tame opened (tees tee) call reply (mode, uses, tame) = tee_turn_tame opened tee call reply (mode, uses) tame
  turn_tame opened told call reply tame = (tt, tt)
  turn_tame opened ended call reply tame = (tt, tt)

  along_tame : (opened : List ℕ) (state : State) (call : Call) (replies : List Reply) → StateTame opened state call → IsTame program arguments opened call → AreTame program arguments state call opened replies
  along_tame opened state call [] tame is = is
  along_tame opened state call (reply ∷ replies) tame is =
      let next = turn_tame opened state call reply tame in
      (is, along_tame (opened_after call reply opened) (turn state reply).next (turn state reply).call replies next.0 next.1)

  filter_tame : (filter : Filter) (names : List Name) → mode_of program ≡ Input → Words names → (names ≡ [] → program_uses_input program arguments ≡ true) → TurnTame [] (begins_filter filter names)
  filter_tame filter [] mode words uses = step_tame [] (first_step filter) filter standard mode (first_asks filter) (uses refl)
  filter_tame filter (name ∷ later) mode words uses = next_tame [] filter (name ∷ later) mode words

none_empty : {X : Type 0} (xs : List X) → xs ≡ [] → is_empty xs ≡ true
none_empty xs e = ap is_empty e

head_tame : (arguments : List Bytes) → TurnTame Head arguments [] (begins_head (has_wrong_option arguments) arguments)
head_tame arguments = go (has_wrong_option arguments) refl
  where
    go : (wrong : Bool) → has_wrong_option arguments ≡ wrong → TurnTame Head arguments [] (begins_head wrong arguments)
    go true e = (tt, inr (inl refl))
    go false e = filter_tame Head arguments (heading (line_count arguments)) (head_files arguments) refl (λ n is. is) (λ none. λ i. none_empty (head_files arguments) none i && not (e i))

begins_tame : (program : Program) (arguments : List Bytes) → TurnTame program arguments [] (begins_program program arguments)
begins_tame Cat arguments = filter_tame Cat arguments copying arguments refl (λ n is. is) (none_empty arguments)
begins_tame Echo arguments = echo_tame Echo arguments [] arguments
begins_tame Grep [] = (tt, inr (inl refl))
begins_tame Grep (pattern ∷ names) = filter_tame Grep (pattern ∷ names) (searching pattern) names refl (λ n is. is) (λ none. ap (λ (ns : List Bytes). length (pattern ∷ ns) == 1) none)
begins_tame Head arguments = head_tame arguments
begins_tame Tee' arguments = tee_next_tame Tee' arguments [] [] arguments (refl, refl) (λ fd is. is) (λ n is. is)
begins_tame Wc arguments = filter_tame Wc arguments counting arguments refl (λ n is. is) (none_empty arguments)

-- after the first reply, whatever it is
pub always_tame : (program : Program) (arguments : List Bytes) (first : Reply) (replies : List Reply) →
    AreTame program arguments (turn (begins program arguments) first).next (turn (begins program arguments) first).call [] replies
always_tame program arguments first replies =
    let begun = begins_tame program arguments in
    along_tame program arguments [] (begins_program program arguments).next (begins_program program arguments).call replies begun.0 begun.1
