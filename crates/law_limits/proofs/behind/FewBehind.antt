-- No run of a script within the bound on processes finds no free slot, also where commands run behind `&`.
use Rattle.std.proofs.Common.{◌≡◌, ◌≢◌, ◌⊎◌, inl, inr, ℕ, zero, suc, ◌<◌, ◌≤◌, List, [], ◌∷◌, Bool, true, false, Some, None, length, refl, sym, ap, ◌∙◌, subst, arith}
use Rattle.std.specs.List.{position_or_len}
use Rattle.std.proofs.lemmas.List.Sums.{fails_before_first}
use Rattle.std.proofs.lemmas.Grind.{common_steps}
use Rattle.mem_files.specs.Name.{Name, Bytes}
use Rattle.mem_files.specs.Listing.{AreFiles}
use Rattle.script_load.specs.declared.profile.Profile.{Profile}
use Rattle.script_load.specs.Line.{ScriptLine}
use Rattle.meaning_model.specs.Meaning.{line_tree, script_tree}
use Rattle.user_calls.specs.declared.calls.Call.{Call}
use Rattle.user_calls.specs.declared.calls.Call.TheVariants.{Fork, Exit, Wait, MakePipe, Close}
use Rattle.proc_table.specs.declared.pid.TheConstants.{PROCS}
use Rattle.proc_table.specs.Slots.{Slot, Table, at, is_free, is_zombie_status, parent_or_init}
use Rattle.proc_table.specs.Calls.{lowest_free}
use Rattle.kernel_model.specs.declared.events.Event.{Event}
use Rattle.kernel_model.specs.declared.events.Full.TheVariants.{Procs}
use Rattle.kernel_model.specs.KernelState.{KernelState}
use Rattle.kernel_model.specs.Events.{run}
use Rattle.law_kernel.proofs.kernel.Runs.{runs_alive}
use Rattle.run_model.specs.ScriptRun.{script_kernel}
use Rattle.sh_machine.specs.declared.state.Phase.{Phase}
use Rattle.sh_machine.specs.declared.state.Phase.TheVariants.{Starts, Forks, Waits, ToldCd}
use Rattle.sh_machine.specs.State.{Parent, makes, forks_writer, forks_reader, closes_reader, closes_writer, waits_first, waits_second, Shell, top, unknown, closes_old, opens_file, forks_left, waits_left, pipes, side, forks_back, told, ended, User, init, shell, program}
use Rattle.sh_machine.specs.Turn.{call_of, next_of}
use Rattle.process_model.specs.Seen.{Entry, Fds, Seen, free, zombie, live, seen_by, seen_slot, fds_seen, act_of, view}
use Rattle.law_runs.specs.Consistent.{IsConsistent}
use Rattle.law_runs.proofs.views.Runs as runs
use Rattle.law_runs.proofs.views.Tables.{seen_up}
use Rattle.law_runs.proofs.room.FirstFull.{First, first_full}
use Rattle.room_model.specs.BehindProcesses.{processes_at_once}
use Rattle.room_model.proofs.Trees.{some_run}
use Rattle.law_limits.proofs.behind.Trees.{list_enough}
use Rattle.law_limits.proofs.behind.Sums.{total_least}
use Rattle.law_limits.proofs.behind.Fits.{IsQuiet, UserFits, ShellFits, TopFits, ParentFits}
use Rattle.law_limits.proofs.behind.Replies.{loud}
use Rattle.law_limits.proofs.behind.Budget.{kids, owed, SlotFits, Budget}
use Rattle.law_limits.proofs.behind.Runs.{IsWithin, every_run_is_within}

-- ---- a process that forks has two

other_call : (call other : Call) → call ≡ other → call ≡ Fork → (Fork ≡ other → ⊥) → ⊥
other_call call other is fork none = none (sym fork ∙ is)

module _ (w g o k : ℕ) (call : Call) (d : Fds) (forks : call ≡ Fork) where
  not_quiet : IsQuiet call → ⊥
  not_quiet quiet = loud call Fork forks quiet (λ z. z)

  top_two : (phase : Phase) (lines : List ScriptLine) → TopFits w g o k call d phase lines → 2 ≤ w
  top_two Starts lines fits = absurd fits
  top_two Forks [] fits = absurd fits
  top_two Forks (line ∷ later) fits = omega (arith, some_run (line_tree line), (list_enough (line_tree line) (script_tree later) w g fits.1.1).left)
  top_two Waits [] fits = absurd fits
  top_two Waits (line ∷ later) fits = absurd (other_call call Wait fits.0 forks (λ e. let z : ⊥ = cc in z))
  top_two ToldCd [] fits = absurd fits
  top_two ToldCd (line ∷ later) fits = absurd (not_quiet fits.0)

  parent_two : (at : Parent) → ParentFits w g o k call d at → 2 ≤ w
  parent_two (makes left right) fits = absurd (other_call call MakePipe fits.0 forks (λ e. let z : ⊥ = cc in z))
  parent_two (forks_writer left right reader writer) fits = omega (arith, some_run left, fits.2.1.runs)
  parent_two (forks_reader right reader writer) fits = omega (arith, some_run right, fits.3)
  parent_two (closes_reader writer) fits = absurd (other_call call (Close fits.0) fits.1 forks (λ e. let z : ⊥ = cc in z))
  parent_two closes_writer fits = absurd (other_call call (Close fits.0) fits.1 forks (λ e. let z : ⊥ = cc in z))
  parent_two waits_first fits = absurd (other_call call Wait fits.0 forks (λ e. let z : ⊥ = cc in z))
  parent_two waits_second fits = absurd (other_call call Wait fits.0 forks (λ e. let z : ⊥ = cc in z))

  shell_two : (at : Shell) → ShellFits w g o k call d at → 2 ≤ w
  shell_two (top phase lines) fits = top_two phase lines fits
  shell_two (unknown name) fits = absurd (not_quiet fits.0)
  shell_two (closes_old mode name body) fits = absurd (not_quiet fits.0)
  shell_two (opens_file name body) fits = absurd (not_quiet fits.0)
  shell_two (forks_left left right) fits = omega (arith, some_run left, (list_enough left right w g fits.1.1).left)
  shell_two (waits_left right) fits = absurd (other_call call Wait fits.0 forks (λ e. let z : ⊥ = cc in z))
  shell_two (pipes at) fits = parent_two at fits
  shell_two (side at tree) fits = absurd (not_quiet fits.0)
  shell_two (forks_back body) fits = omega (arith, some_run body, fits.1.1.runs)
  shell_two told fits = absurd (not_quiet fits.0)
  shell_two ended fits = absurd (other_call call Exit fits.0 forks (λ e. let z : ⊥ = cc in z))

  two : (next : User) → UserFits w g o k call d next → 2 ≤ w
  two init fits = absurd fits
  two (shell profile at) fits = shell_two at fits
  two (program state) fits = by fits.0
    where
      by : IsQuiet call ⊎ (call ≡ Exit) → 2 ≤ w
      by (inl quiet) = absurd (not_quiet quiet)
      by (inr is) = absurd (other_call call Exit is forks (λ e. let z : ⊥ = cc in z))

-- ---- where no slot is free each has a process

taken : (t : Table User) → lowest_free t ≡ None → (q : ℕ) → q < length t → is_free (at t q) ≡ false
taken t none q few =
    let past : length t ≤ position_or_len is_free t = grind (arith, common_steps) in
    fails_before_first is_free t q None (omega arith)

fits_some : (q w g o k : ℕ) (s : Seen) → (s ≡ free → ⊥) → SlotFits q w g o k s → 1 ≤ w
fits_some q w g o k free used fits = absurd (used refl)
fits_some q w g o k (zombie parent) used fits = fits.2
fits_some q w g o k (live parent act n d) used fits = fits.1

not_free : (name : ℕ → Entry) (x : Slot User) → is_free x ≡ false → seen_slot name x ≡ free → ⊥
not_free name None used is = let z : ⊥ = cc in z
not_free name (Some p) used is = by (is_zombie_status p.status) is
  where
    by : (b : Bool) → seen_by b name p ≡ free → ⊥
    by true e = let z : ⊥ = cc in z
    by false e = let z : ⊥ = cc in z

module _ (profile : Profile) (lines : List ScriptLine) (input : Bytes) (list : List (Name × Bytes)) (are : AreFiles list) where
  abbrev first : User
  first = shell profile (top Starts lines)

  module _ (f : First init first input list Procs) where
    abbrev k : KernelState User
    k = f.kernel

    within : IsWithin (processes_at_once lines) k
    within = every_run_is_within profile lines input list are f.reached.events f.reached.notes k f.reached.runs f.clean

    settled : IsConsistent k
    settled = runs.settled init first input list are k f.reached

    abbrev pid : ℕ
    pid = f.asks.pid

    abbrev call : Call
    call = call_of f.asks.process.machine f.asks.process.reply

    abbrev d : Fds
    d = fds_seen within.names.name f.asks.process.fds

    forks : call ≡ Fork
    forks = f.asks.lacks.0

    up : pid ≢ 0
    up is =
        let waits : call ≡ Wait = ap (λ m. call_of m f.asks.process.reply) (within.has_init f.asks.process (sym (ap (at k.table) is) ∙ f.asks.there)).0 in
        other_call call Wait waits forks (λ e. let z : ⊥ = cc in z)

    alive : (b : Bool) → b ≡ false → seen_by b within.names.name f.asks.process ≡ live (parent_or_init f.asks.process.parent) (act_of f.asks.process.machine f.asks.process.reply) f.asks.process.put d
    alive true is = absurd (let z : ⊥ = cc in z)
    alive false is = refl

    seen : (view within.names k).slots pid ≡ live (parent_or_init f.asks.process.parent) (act_of f.asks.process.machine f.asks.process.reply) f.asks.process.put d
    seen =
        seen_up within.names.name k.table pid up
        ∙ (ap (seen_slot within.names.name) f.asks.there ∙ alive (is_zombie_status f.asks.process.status) (runs_alive f.asks.hart f.asks.process.status f.asks.running))

    abbrev B : Budget (view within.names k) (processes_at_once lines)
    B = within.budget

    has_two : 2 ≤ B.w pid
    has_two =
        two (B.w pid) (B.g pid) (owed (view within.names k) B.g pid) (kids (view within.names k) pid) call d forks (next_of f.asks.process.machine f.asks.process.reply)
        (subst (SlotFits pid (B.w pid) (B.g pid) (owed (view within.names k) B.g pid) (kids (view within.names k) pid)) seen (B.fits pid up)).2

    each : (q : ℕ) → 0 ≤ q → q < 64 → 1 ≤ B.w q
    each zero low high = B.init
    each (suc q) low high =
        fits_some (suc q) (B.w (suc q)) (B.g (suc q)) _ _ ((view within.names k).slots (suc q))
        (not_free within.names.name (at k.table (suc q)) (taken k.table f.asks.lacks.1 (suc q) (omega (arith, high, settled.sound.slots))))
        (B.fits (suc q) (λ e. omega (arith, e)))

    small : pid < 64
    small = omega (arith, Rattle.proc_table.proofs.Counts.used_within k.table pid f.asks.process f.asks.there, settled.sound.slots)

    too_many : PROCS < processes_at_once lines
    too_many = omega (arith, total_least B.w pid 0 64 each (omega arith) small has_two, B.sum)

  pub slot_is_free : (es : List Event) (ns : List Bool) (m : KernelState User) → run call_of next_of (Some (script_kernel profile lines input list)) es ns ≡ Some m → processes_at_once lines ≤ PROCS → m.full ≡ Some Procs → ⊥
  slot_is_free es ns m is few marked = omega (arith, few, too_many (first_full init first input list Procs es ns m is marked))
