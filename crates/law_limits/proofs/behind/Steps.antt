-- Each call of each process leaves enough for all.
use Rattle.std.proofs.Common.{◌≡◌, ◌≢◌, ◌⊎◌, inl, inr, ℕ, ◌+◌, ◌<◌, ◌≤◌, List, [], ◌∷◌, true, false, Option, Some, None, length, refl, sym, ap, ◌∙◌, subst, arith, get_or-set_other, get_or-set_same}
use Rattle.std.specs.Prelude.{slice_set}
use Rattle.sh_tree.specs.Tree.{Tree}
use Rattle.script_load.specs.declared.profile.Profile.{Profile}
use Rattle.script_load.specs.Line.{ScriptLine}
use Rattle.meaning_model.specs.Meaning.{line_tree, script_tree}
use Rattle.user_calls.specs.declared.calls.Call.{Call}
use Rattle.user_calls.specs.declared.calls.Call.TheVariants.{Fork, Exit, Wait, MakePipe, Close}
use Rattle.user_calls.specs.declared.calls.Reply.TheVariants.{Child, Done}
use Rattle.fd_table.specs.Entries.{is_free}
use Rattle.fd_table.proofs.Lists.{position_found}
use Rattle.sh_machine.specs.declared.state.Phase.{Phase}
use Rattle.sh_machine.specs.declared.state.Phase.TheVariants.{Starts, Forks, Waits, ToldCd}
use Rattle.sh_machine.specs.State.{Parent, makes, forks_writer, forks_reader, closes_reader, closes_writer, waits_first, waits_second, Shell, top, unknown, closes_old, opens_file, forks_left, waits_left, pipes, side, forks_back, told, ended, User, init, shell, program}
use Rattle.process_model.specs.Seen.{Entry, reader, writer, Fds, fd_at, Act, act_of, live, View}
use Rattle.process_model.specs.Effect.{Answers, lowest, WaitsFor, reaps, has_none, sleeps, MakesPipe, ClosesAt, EffectBy, IsCall}
use Rattle.room_model.specs.BehindProcesses.{at_once, left_behind}
use Rattle.room_model.proofs.Trees.{some_run, rest_of}
use Rattle.law_limits.proofs.behind.Trees.{Enough, ListEnough, list_enough, gives_back, back_enough, none_enough}
use Rattle.law_limits.proofs.behind.Fits.{IsQuiet, IsOpen, AreOpen, UserFits, ShellFits, TopFits, ParentFits, ActFits, runs_fit, takes_fit, line_fit}
use Rattle.law_limits.proofs.behind.Budget.{kids, owed, none_kids, SlotFits, Budget, InRange, quiet_keeps, set_keeps, exit_keeps}
use Rattle.law_limits.proofs.behind.Families.{fork_keeps, reap_keeps}
use Rattle.law_limits.proofs.behind.Moved.{Moved, goes, holds, rests, moved}
use Rattle.law_limits.proofs.behind.Replies.{IsNoPipe, reply_fits}

-- ---- descriptors

taken_open : (d : Fds) (place : ℕ) (x : Entry) → place < length d → IsOpen (slice_set d place (Some x)) place
taken_open d place x within = (x, get_or-set_same d place (Some x) None within)

still_open : (d : Fds) (place fd : ℕ) (x : Option Entry) → fd ≢ place → IsOpen d fd → IsOpen (slice_set d place x) fd
still_open d place fd x ne is = (is.0, get_or-set_other d place fd x None ne ∙ is.1)

lowest_within : (d : Fds) (place : ℕ) → lowest d ≡ Some place → (place < length d) × (is_free (fd_at d place) ≡ true)
lowest_within d place is = position_found is_free d None place is

-- both ends of a pipe that was just made
made_open : (d : Fds) (read_fd write_fd : ℕ) (x y : Entry) → lowest d ≡ Some read_fd → lowest (slice_set d read_fd (Some x)) ≡ Some write_fd
    → AreOpen (slice_set (slice_set d read_fd (Some x)) write_fd (Some y)) read_fd write_fd
made_open d read_fd write_fd x y first second =
    let here = lowest_within d read_fd first in
    let there = lowest_within (slice_set d read_fd (Some x)) write_fd second in
    let has : IsOpen (slice_set d read_fd (Some x)) read_fd = taken_open d read_fd x here.0 in
    let apart : read_fd ≢ write_fd = λ e. let z : false ≡ true = sym (ap is_free has.1) ∙ (ap (λ n. is_free (fd_at (slice_set d read_fd (Some x)) n)) e ∙ there.1) in let w : ⊥ = cc in w in
    record {
      apart = apart;
      reads = still_open (slice_set d read_fd (Some x)) write_fd read_fd (Some y) apart has;
      writes = taken_open (slice_set d read_fd (Some x)) write_fd y there.0;
    }

module _ (V W : View) (most : ℕ) (B : Budget V most) (within : InRange V) (after : InRange W) (p parent n : ℕ) (up : p ≢ 0) (d : Fds) where
  abbrev w : ℕ
  w = B.w p

  abbrev g : ℕ
  g = B.g p

  abbrev o : ℕ
  o = owed V B.g p

  abbrev k : ℕ
  k = kids V p

  abbrev act : Call → User → Act
  act call next = record { call = call; next = next }

  module _ (call : Call) (next : User) (slot : V.slots p ≡ live parent (act call next) n d) (effect : EffectBy V W p parent n (act call next) d call) where
    abbrev Own : Type 0
    Own = UserFits w g o k call d next

    some : 1 ≤ w
    some = (subst (SlotFits p w g o k) slot (B.fits p up)).1

    effect_of : (other : Call) → call ≡ other → EffectBy V W p parent n (act call next) d other
    effect_of other is = subst (EffectBy V W p parent n (act call next) d) is effect

    -- a quiet call
    quiet : IsQuiet call → IsNoPipe next → Own → Budget W most
    quiet still plain fits = by (moved V W p parent (act call next) d n call still effect)
      where
        by : Moved V W p parent (act call next) d call → Budget W most
        by (goes reply e after sets) =
            set_keeps V W most B p parent (act call next) (act_of next reply) n 0 d e slot sets up (reply_fits w g o k d e call next still plain fits reply)
        by (holds m sets) = set_keeps V W most B p parent (act call next) (act call next) n m d d slot sets up fits
        by (rests same) = quiet_keeps V W most B same

    exit : call ≡ Exit → g ≤ w → Budget W most
    exit is less = exit_keeps V W most B p parent n (act call next) d slot (effect_of Exit is) up less

    -- a fork of a child that runs this much and gives this back
    fork : call ≡ Fork → (share gives : ℕ) → 1 ≤ share → share + 1 ≤ w
        → ((u : ℕ) → ActFits share gives u 0 d (act_of next Child)) → ((rest : ℕ) → rest + share ≡ w → ActFits rest g (o + gives) (k + 1) d (act_of next Done)) → Budget W most
    fork is share gives one less child parent_fits =
        let rest = rest_of share w (omega (arith, less)) in
        fork_keeps V W most B within after p parent n (act call next) d slot (effect_of Fork is) share rest.0 gives rest.1 one (omega (arith, rest.1, less)) (child _) (parent_fits rest.0 rest.1)

    -- a wait for one of the children
    wait : call ≡ Wait → 1 ≤ k → Own → ((v u j : ℕ) → w + o ≤ v + u → j + 1 ≡ k → (j ≡ 0 → u ≡ 0) → ActFits v g u j d (act_of next Done)) → Budget W most
    wait is one fits then = by (effect_of Wait is)
      where
        by : WaitsFor V W p parent (act call next) d → Budget W most
        by (reaps r) = reap_keeps V W most B within after p parent n (act call next) d slot r then
        by (has_none none answers) = absurd (omega (arith, one, none_kids V p none))
        by (sleeps child is_child none sets rest asleep) = set_keeps V W most B p parent (act call next) (act call next) n 0 d d slot sets up fits

  -- ---- the states that fork, wait or make a pipe

  lists : (l r : Tree) (rest g_left : ℕ) → ListEnough l r w g → rest + at_once l ≡ w → g_left + left_behind l ≡ at_once l → Enough r (rest + (o + g_left)) g
  lists l r rest g_left e parts gives = record { runs = omega (arith, e.right, parts, gives); gives = omega (arith, e.gives, parts, gives) }

  then_enough : (t : Tree) (v u j : ℕ) → Enough t (w + o) g → w + o ≤ v + u → j ≡ 0 → (j ≡ 0 → u ≡ 0) → Enough t v g
  then_enough t v u j e much none last = record { runs = omega (arith, e.runs, much, last none); gives = omega (arith, e.gives, much, last none) }

  module _ (profile : Profile) where
    top_step : (phase : Phase) (lines : List ScriptLine) (call : Call) → TopFits w g o k call d phase lines → V.slots p ≡ live parent (act call (shell profile (top phase lines))) n d
        → EffectBy V W p parent n (act call (shell profile (top phase lines))) d call → Budget W most
    top_step Starts lines call fits slot effect = absurd fits
    top_step Forks [] call fits slot effect = absurd fits
    top_step Forks (line ∷ later) call fits slot effect =
        let tree = line_tree line in
        let e = list_enough tree (script_tree later) w g fits.1.1 in
        let back = gives_back tree in
        fork call (shell profile (top Forks (line ∷ later))) slot effect fits.0 (at_once tree) back.0 (some_run tree) (omega (arith, e.left))
        (λ u. line_fit profile (at_once tree) back.0 u 0 d line refl (back_enough tree back.0 back.1))
        (λ rest parts. (refl, (omega (arith, fits.1.0), lists tree (script_tree later) rest back.0 e parts back.1)))
    top_step Waits [] call fits slot effect = absurd fits
    top_step Waits (line ∷ later) call fits slot effect =
        wait call (shell profile (top Waits (line ∷ later))) slot effect fits.0 (omega (arith, fits.1.0)) fits
        (λ v u j much one last. let none : j ≡ 0 = omega (arith, one, fits.1.0) in takes_fit profile v g u j d later none (then_enough (script_tree later) v u j fits.1.1 much none last))
    top_step ToldCd [] call fits slot effect = absurd fits
    top_step ToldCd (line ∷ later) call fits slot effect = quiet call (shell profile (top ToldCd (line ∷ later))) slot effect fits.0 (λ q is. let z : ⊥ = cc in z) fits

    parent_step : (at : Parent) (call : Call) → ParentFits w g o k call d at → V.slots p ≡ live parent (act call (shell profile (pipes at))) n d
        → EffectBy V W p parent n (act call (shell profile (pipes at))) d call → Budget W most
    parent_step (makes left right) call fits slot effect =
        let m : MakesPipe V W p parent (act call (shell profile (pipes (makes left right)))) d = effect_of call (shell profile (pipes (makes left right))) slot effect MakePipe fits.0 in
        set_keeps V W most B p parent (act call (shell profile (pipes (makes left right)))) _ n 0 d _ slot m.slots up
        (refl, made_open d m.read_fd m.write_fd (reader V.next) (writer V.next) m.read_end m.write_end, fits.1)
    parent_step (forks_writer left right rd wr) call fits slot effect =
        let back = gives_back left in
        let e = fits.2.1 in
        fork call (shell profile (pipes (forks_writer left right rd wr))) slot effect fits.0 (at_once left) back.0 (some_run left) (omega (arith, e.runs))
        (λ u. (tt, (refl, back_enough left back.0 back.1)))
        (λ rest parts. (refl, fits.1, omega (arith, fits.2.0), omega (arith, e.runs, parts), omega (arith, e.gives, parts, back.1)))
    parent_step (forks_reader right rd wr) call fits slot effect =
        let back = gives_back right in
        fork call (shell profile (pipes (forks_reader right rd wr))) slot effect fits.0 (at_once right) back.0 (some_run right) (omega (arith, fits.3))
        (λ u. (tt, (refl, back_enough right back.0 back.1)))
        (λ rest parts. (rd, refl, fits.1, omega (arith, fits.2), omega (arith, fits.4, parts, back.1)))
    parent_step (closes_reader wr) call fits slot effect =
        let at = shell profile (pipes (closes_reader wr)) in
        let rd = fits.0 in
        let ends = fits.2 in
        let a : Answers V W p parent (act call at) Done (slice_set d rd None) = subst (ClosesAt V W p parent (act call at) d rd) ends.reads.1 (effect_of call at slot effect (Close rd) fits.1) in
        set_keeps V W most B p parent (act call at) _ n 0 d _ slot a.slots up
        (wr, refl, still_open d rd wr None (λ e. ends.apart (sym e)) ends.writes, fits.3, fits.4)
    parent_step closes_writer call fits slot effect =
        let at = shell profile (pipes closes_writer) in
        let wr = fits.0 in
        let a : Answers V W p parent (act call at) Done (slice_set d wr None) = subst (ClosesAt V W p parent (act call at) d wr) fits.2.1 (effect_of call at slot effect (Close wr) fits.1) in
        set_keeps V W most B p parent (act call at) _ n 0 d _ slot a.slots up (refl, fits.3, fits.4)
    parent_step waits_first call fits slot effect =
        wait call (shell profile (pipes waits_first)) slot effect fits.0 (omega (arith, fits.1)) fits
        (λ v u j much one last. (refl, omega (arith, one, fits.1), omega (arith, fits.2, much)))
    parent_step waits_second call fits slot effect =
        wait call (shell profile (pipes waits_second)) slot effect fits.0 (omega (arith, fits.1)) fits
        (λ v u j much one last. (refl, omega (arith, fits.2, much, last (omega (arith, one, fits.1)))))

    shell_step : (at : Shell) (call : Call) → ShellFits w g o k call d at → V.slots p ≡ live parent (act call (shell profile at)) n d
        → EffectBy V W p parent n (act call (shell profile at)) d call → Budget W most
    shell_step (top phase lines) call fits slot effect = top_step phase lines call fits slot effect
    shell_step (unknown name) call fits slot effect = quiet call (shell profile (unknown name)) slot effect fits.0 (λ q is. let z : ⊥ = cc in z) fits
    shell_step (closes_old mode name body) call fits slot effect = quiet call (shell profile (closes_old mode name body)) slot effect fits.0 (λ q is. let z : ⊥ = cc in z) fits
    shell_step (opens_file name body) call fits slot effect = quiet call (shell profile (opens_file name body)) slot effect fits.0 (λ q is. let z : ⊥ = cc in z) fits
    shell_step (forks_left left right) call fits slot effect =
        let e = list_enough left right w g fits.1.1 in
        let back = gives_back left in
        fork call (shell profile (forks_left left right)) slot effect fits.0 (at_once left) back.0 (some_run left) (omega (arith, e.left))
        (λ u. runs_fit profile (at_once left) back.0 u 0 d left refl (back_enough left back.0 back.1))
        (λ rest parts. (refl, (omega (arith, fits.1.0), lists left right rest back.0 e parts back.1)))
    shell_step (waits_left right) call fits slot effect =
        wait call (shell profile (waits_left right)) slot effect fits.0 (omega (arith, fits.1.0)) fits
        (λ v u j much one last. let none : j ≡ 0 = omega (arith, one, fits.1.0) in runs_fit profile v g u j d right none (then_enough right v u j fits.1.1 much none last))
    shell_step (pipes at) call fits slot effect = parent_step at call fits slot effect
    shell_step (side at tree) call fits slot effect = quiet call (shell profile (side at tree)) slot effect fits.0 (λ q is. let z : ⊥ = cc in z) fits
    shell_step (forks_back body) call fits slot effect =
        fork call (shell profile (forks_back body)) slot effect fits.0 (at_once body) 0 (some_run body) (omega (arith, fits.1.1.runs))
        (λ u. runs_fit profile (at_once body) 0 u 0 d body refl (none_enough body))
        (λ rest parts. (refl, omega (arith, fits.1.1.gives, parts)))
    shell_step told call fits slot effect = quiet call (shell profile told) slot effect fits.0 (λ q is. let z : ⊥ = cc in z) fits
    shell_step ended call fits slot effect = exit call (shell profile ended) slot effect fits.0 fits.1

  user_step : (next : User) (call : Call) → UserFits w g o k call d next → V.slots p ≡ live parent (act call next) n d → EffectBy V W p parent n (act call next) d call → Budget W most
  user_step init call fits slot effect = absurd fits
  user_step (shell profile at) call fits slot effect = shell_step profile at call fits slot effect
  user_step (program state) call fits slot effect = by fits.0
    where
      by : IsQuiet call ⊎ (call ≡ Exit) → Budget W most
      by (inl still) = quiet call (program state) slot effect still tt fits
      by (inr is) = exit call (program state) slot effect is fits.1.1

  pub act_step : (a : Act) → V.slots p ≡ live parent a n d → EffectBy V W p parent n a d a.call → Budget W most
  act_step a slot effect = user_step a.next a.call (subst (SlotFits p w g o k) slot (B.fits p up)).2 slot effect

pub call_keeps : (V W : View) (most : ℕ) → Budget V most → InRange V → InRange W → (p : ℕ) → p ≢ 0 → IsCall V W p → Budget W most
call_keeps V W most B within after p up c = act_step V W most B within after p c.parent c.put up c.fds c.act c.slot c.effect
