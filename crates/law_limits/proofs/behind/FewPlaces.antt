-- No run of a script within the bound on descriptors finds a process without a free one that it wants, also where commands run
-- behind `&`.
use Rattle.std.proofs.Common.{◌≡◌, ◌≢◌, ◌⊎◌, inl, inr, ℕ, zero, suc, ◌+◌, ◌≤◌, List, [], ◌∷◌, Bool, true, false, Option, Some, None, length, refl, sym, ap, ◌∙◌, subst, arith}
use Rattle.std.specs.Prelude.{cond, slice_set}
use Rattle.std.proofs.lemmas.Bool.{cases_eq}
use Rattle.std.proofs.lemmas.List.{length-map}
use Rattle.std.proofs.lemmas.List.Sums.{sum_by-cons}
use Rattle.mem_files.specs.Name.{Name, Bytes}
use Rattle.mem_files.specs.Listing.{AreFiles}
use Rattle.script_load.specs.declared.profile.Profile.{Profile}
use Rattle.script_load.specs.Line.{ScriptLine}
use Rattle.user_calls.specs.declared.calls.Call.{Call}
use Rattle.user_calls.specs.declared.calls.Call.TheVariants.{Fork, Exec, Exit, Wait, MakePipe, Read, Write, OpenFile, Close, Dup}
use Rattle.user_calls.specs.declared.calls.Reply.{Reply}
use Rattle.user_calls.specs.declared.calls.Reply.TheVariants.{Done, Ends, Refused}
use Rattle.fd_table.specs.declared.descriptors.TheConstants.{DESCRIPTORS}
use Rattle.fd_table.specs.Entries.{is_free, free_count}
use Rattle.fd_table.specs.Descriptors.{Descriptors}
use Rattle.proc_table.specs.Slots.{Process, at, is_zombie_status, parent_or_init}
use Rattle.kernel_model.specs.declared.events.Event.{Event}
use Rattle.kernel_model.specs.declared.events.Event.TheVariants.{Dispatch, Trap}
use Rattle.kernel_model.specs.declared.events.Full.TheVariants.{Fds}
use Rattle.kernel_model.specs.KernelState.{KernelState, fds_of, fds_at}
use Rattle.kernel_model.specs.Events.{happens, run}
use Rattle.law_kernel.proofs.kernel.Runs.{runs_alive}
use Rattle.run_model.specs.ScriptRun.{script_kernel}
use Rattle.sh_machine.specs.declared.state.Phase.TheVariants.{Starts}
use Rattle.sh_machine.specs.State.{User, init, shell, top}
use Rattle.sh_machine.specs.Turn.{call_of, next_of}
use Rattle.process_model.specs.Seen.{Entry, reader, writer, Fds as Held, Seen, free, zombie, live, seen_by, seen_slot, fds_seen, Act, act_of, Names, View, view}
use Rattle.process_model.specs.Effect.{Sets, answered, given, Forks, Exits, Reaps, WaitsFor, reaps, has_none, sleeps, MakesPipe, EffectBy, IsCall}
use Rattle.process_model.specs.Shows.{ShowsIn}
use Rattle.process_model.proofs.Start.{start_stands}
use Rattle.law_runs.specs.Consistent.{IsConsistent}
use Rattle.law_runs.specs.Seen.{IsInit, TakesAway, InitWaits, takes_away, waits_on}
use Rattle.law_runs.proofs.views.Events.{trap_seen, dispatch_quiet}
use Rattle.law_runs.proofs.views.InitSeen.{init_seen}
use Rattle.law_runs.proofs.views.Named.{event_keeps_init, start_init}
use Rattle.law_runs.proofs.views.Runs as runs
use Rattle.law_runs.proofs.views.Tables.{seen_up}
use Rattle.room_model.specs.Descriptors.{script_descriptors}
use Rattle.law_runs.proofs.room.FirstFull.{First, first_full}
use Rattle.law_runs.proofs.room.Marks.{descriptors_wanted}
use Rattle.law_limits.proofs.behind.Fits.{IsQuiet}
use Rattle.law_limits.proofs.behind.Moved.{Moved, goes, holds, rests, moved}
use Rattle.law_limits.proofs.behind.Used.{used, used_free, used_more, After, other_after}
use Rattle.law_limits.proofs.behind.Places.{Has, has_still, takes_has}
use Rattle.law_limits.proofs.behind.Runs.{none_seen}

abbrev pub SlotHas : ℕ → Seen → Type 0
SlotHas D free = Unit {0}
SlotHas D (zombie parent) = Unit {0}
SlotHas D (live parent act n d) = Has D (used d) act.call act.next

abbrev pub AllHave : ℕ → View → Type 0
AllHave D V = (q : ℕ) → SlotHas D (V.slots q)

-- ---- a call

module _ (D : ℕ) (V W : View) (all : AllHave D V) where
  same_have : ((q : ℕ) → W.slots q ≡ V.slots q) → AllHave D W
  same_have same q = subst (SlotHas D) (sym (same q)) (all q)

  set_has : (p : ℕ) (s : Seen) → Sets V W p s → SlotHas D s → AllHave D W
  set_has p s sets has q = by (cases_eq q p)
    where
      by : (q ≡ p) ⊎ (q ≢ p) → SlotHas D (W.slots q)
      by (inl is) = subst (SlotHas D) (sym (ap W.slots is ∙ sets.here)) has
      by (inr ne) = subst (SlotHas D) (sym (sets.others q ne)) (all q)

  given_has : (p : ℕ) (s : Seen) → SlotHas D s → SlotHas D (given p s)
  given_has p free has = tt
  given_has p (zombie parent) has = tt
  given_has p (live parent act n d) has = has

  module _ (p parent n : ℕ) (act : Act) (d : Held) (slot : V.slots p ≡ live parent act n d) where
    own : SlotHas D (live parent act n d)
    own = subst (SlotHas D) slot (all p)

    -- p goes on with this reply and these descriptors
    now_has : (reply : Reply) (e : Held) → After act.call (used d) reply (used e) → (who : ℕ) → SlotHas D (answered who act reply e)
    now_has reply e after who = has_still D act.next act.call (used d) reply (used e) after own

    fork_has : act.call ≡ Fork → Forks V W p parent act d → AllHave D W
    fork_has is f q = by (cases_eq q p) (cases_eq q f.child)
      where
        kept : (reply : Reply) → After act.call (used d) reply (used d)
        kept reply = subst (λ c. After c (used d) reply (used d)) (sym is) (other_after Fork (used d) reply (used d) (λ fd e. let z : ⊥ = cc in z) (omega arith))

        by : (q ≡ p) ⊎ (q ≢ p) → (q ≡ f.child) ⊎ (q ≢ f.child) → SlotHas D (W.slots q)
        by (inl same) other = subst (SlotHas D) (sym (ap W.slots same ∙ f.here)) (now_has _ d (kept _) parent)
        by (inr ne) (inl same) = subst (SlotHas D) (sym (ap W.slots same ∙ f.child_is)) (now_has _ d (kept _) p)
        by (inr ne) (inr other) = subst (SlotHas D) (sym (f.others q ne other)) (all q)

    exit_has : Exits V W p parent → AllHave D W
    exit_has ends q = by (cases_eq q p)
      where
        by : (q ≡ p) ⊎ (q ≢ p) → SlotHas D (W.slots q)
        by (inl same) = subst (SlotHas D) (sym (ap W.slots same ∙ ends.here)) tt
        by (inr ne) = subst (SlotHas D) (sym (ends.others q ne)) (given_has p (V.slots q) (all q))

    waited : act.call ≡ Wait → (reply : Reply) → After act.call (used d) reply (used d)
    waited is reply = subst (λ c. After c (used d) reply (used d)) (sym is) (other_after Wait (used d) reply (used d) (λ fd e. let z : ⊥ = cc in z) (omega arith))

    reap_has : act.call ≡ Wait → Reaps V W p parent act d → AllHave D W
    reap_has is r q = by (cases_eq q p) (cases_eq q r.child)
      where
        by : (q ≡ p) ⊎ (q ≢ p) → (q ≡ r.child) ⊎ (q ≢ r.child) → SlotHas D (W.slots q)
        by (inl same) other =
            subst (SlotHas D) (sym (ap W.slots same ∙ r.here))
            (now_has Done d (waited is Done) parent)
        by (inr ne) (inl same) = subst (SlotHas D) (sym (ap W.slots same ∙ r.gone)) tt
        by (inr ne) (inr other) = subst (SlotHas D) (sym (r.others q ne other)) (all q)

    wait_has : act.call ≡ Wait → WaitsFor V W p parent act d → AllHave D W
    wait_has is (reaps r) = reap_has is r
    wait_has is (has_none none a) =
        set_has p _ a.slots (now_has Refused d (waited is Refused) parent)
    wait_has is (sleeps child is_child none sets rest asleep) = set_has p _ sets own

    pipe_has : act.call ≡ MakePipe → MakesPipe V W p parent act d → AllHave D W
    pipe_has is m =
        let half : Held = slice_set d m.read_fd (Some (reader V.next)) in
        let e : Held = slice_set half m.write_fd (Some (writer V.next)) in
        let less : used e ≤ used d + 2 = omega (arith, used_more d m.read_fd (Some (reader V.next)), used_more half m.write_fd (Some (writer V.next))) in
        let reply : Reply = Ends m.read_fd m.write_fd in
        set_has p _ m.slots (now_has reply e (subst (λ c. After c (used d) reply (used e)) (sym is) (other_after MakePipe (used d) reply (used e) (λ fd e. let z : ⊥ = cc in z) less)) parent)

    quiet_has : (call : Call) → act.call ≡ call → IsQuiet call → EffectBy V W p parent n act d call → AllHave D W
    quiet_has call is quiet effect = by (moved V W p parent act d n call quiet effect)
      where
        by : Moved V W p parent act d call → AllHave D W
        by (goes reply e after sets) = set_has p _ sets (now_has reply e (subst (λ c. After c (used d) reply (used e)) (sym is) after) parent)
        by (holds m sets) = set_has p _ sets own
        by (rests same) = same_have same

    effect_has : (call : Call) → act.call ≡ call → EffectBy V W p parent n act d call → AllHave D W
    effect_has Fork is effect = fork_has is effect
    effect_has (Exec found) is effect = quiet_has (Exec found) is tt effect
    effect_has Exit is effect = exit_has effect
    effect_has Wait is effect = wait_has is effect
    effect_has MakePipe is effect = pipe_has is effect
    effect_has (Read fd most) is effect = quiet_has (Read fd most) is tt effect
    effect_has (Write fd bytes) is effect = quiet_has (Write fd bytes) is tt effect
    effect_has (OpenFile name mode) is effect = quiet_has (OpenFile name mode) is tt effect
    effect_has (Close fd) is effect = quiet_has (Close fd) is tt effect
    effect_has (Dup fd) is effect = quiet_has (Dup fd) is tt effect

  call_has : (p : ℕ) → IsCall V W p → AllHave D W
  call_has p c = effect_has p c.parent c.put c.act c.fds c.slot c.act.call refl c.effect

  take_has : TakesAway V W → AllHave D W
  take_has t q = by (cases_eq q t.child)
    where
      by : (q ≡ t.child) ⊎ (q ≢ t.child) → SlotHas D (W.slots q)
      by (inl same) = subst (SlotHas D) (sym (ap W.slots same ∙ t.gone)) tt
      by (inr ne) = subst (SlotHas D) (sym (t.others q ne)) (all q)

  init_has : InitWaits V W → AllHave D W
  init_has (waits_on quiet) = same_have quiet.slots
  init_has (takes_away t) = take_has t

-- ---- along a run

pub record HaveRoom (D : ℕ) (k : KernelState User) : Type 0 where
  pub names : Names
  pub shows : ShowsIn names k
  pub has_init : IsInit k
  pub all : AllHave D (view names k)

event_keeps : (D : ℕ) (k l : KernelState User) (e : Event) (n : Bool) → IsConsistent k → happens call_of next_of k e n ≡ Some l → l.full ≡ None → HaveRoom D k → HaveRoom D l
event_keeps D k l (Dispatch h p) n before happened full i =
    let d = dispatch_quiet i.names k l h p n i.shows happened in
    record {
      names = i.names;
      shows = d.0;
      has_init = event_keeps_init k l (Dispatch h p) n before i.has_init happened;
      all = same_have D (view i.names k) (view i.names l) i.all d.1.slots;
    }
event_keeps D k l (Trap h p) n before happened full i = by (cases_eq p 0)
  where
    stays : IsInit l
    stays = event_keeps_init k l (Trap h p) n before i.has_init happened

    by : (p ≡ 0) ⊎ (p ≢ 0) → HaveRoom D l
    by (inr up) =
        let s = trap_seen i.names k l h p n up before i.shows happened full in
        record { names = s.names; shows = s.shows; has_init = stays; all = call_has D (view i.names k) (view s.names l) i.all p s.call }
    by (inl is) =
        let w = init_seen i.names k before i.shows h l n i.has_init (subst (λ q. happens call_of next_of k (Trap h q) n ≡ Some l) is happened) in
        record { names = i.names; shows = w.0; has_init = stays; all = init_has D (view i.names k) (view i.names l) i.all w.1 }

module _ (profile : Profile) (lines : List ScriptLine) (input : Bytes) (list : List (Name × Bytes)) (are : AreFiles list) where
  abbrev start : KernelState User
  start = script_kernel profile lines input list

  abbrev first_names : Names
  first_names = (start_stands profile lines input list).names

  abbrev first_fds : Held
  first_fds = fds_seen first_names.name (fds_at start 1)

  three_open : used first_fds ≤ 3
  three_open = omega arith

  start_has : HaveRoom (script_descriptors lines) start
  start_has = record { names = first_names; shows = (start_stands profile lines input list).shows; has_init = start_init profile lines input list; all = all }
    where
      all : (q : ℕ) → SlotHas (script_descriptors lines) ((view first_names start).slots q)
      all zero = tt
      all (suc zero) = takes_has (script_descriptors lines) profile (used first_fds) lines three_open (omega arith)
      all (suc (suc q)) = subst (SlotHas (script_descriptors lines)) (sym (none_seen first_names.name 62 q)) tt

  run_has : (events : List Event) (notes : List Bool) (m : KernelState User) → run call_of next_of (Some start) events notes ≡ Some m → m.full ≡ None → HaveRoom (script_descriptors lines) m
  run_has events notes m is full =
      let first = shell profile (top Starts lines) in
      runs.every_run_keeps init first input list (HaveRoom (script_descriptors lines)) (λ k l e n r happened was now holds. event_keeps (script_descriptors lines) k l e n (runs.settled init first input list are k r) happened now holds)
      start_has events notes m is full

  -- ---- the first call for which no descriptor is free

  module _ (f : First init (shell profile (top Starts lines)) input list Fds) (few : script_descriptors lines ≤ DESCRIPTORS) where
    abbrev k : KernelState User
    k = f.kernel

    has : HaveRoom (script_descriptors lines) k
    has = run_has f.reached.events f.reached.notes k f.reached.runs f.clean

    settled : IsConsistent k
    settled = runs.settled init (shell profile (top Starts lines)) input list are k f.reached

    abbrev pid : ℕ
    pid = f.asks.pid

    abbrev q : Process User
    q = f.asks.process

    abbrev call : Call
    call = call_of q.machine q.reply

    abbrev d : Held
    d = fds_seen has.names.name q.fds

    here : fds_of (at k.table pid) ≡ q.fds
    here = ap fds_of f.asks.there

    wants : 1 ≤ descriptors_wanted call
    wants = omega (arith, f.asks.lacks)

    up : pid ≢ 0
    up is =
        let waits : call ≡ Wait = ap (λ m. call_of m q.reply) (has.has_init q (sym (ap (at k.table) is) ∙ f.asks.there)).0 in
        omega (arith, wants, ap descriptors_wanted waits)

    alive : (b : Bool) → b ≡ false → seen_by b has.names.name q ≡ live (parent_or_init q.parent) (act_of q.machine q.reply) q.put d
    alive true is = absurd (let z : ⊥ = cc in z)
    alive false is = refl

    seen : (view has.names k).slots pid ≡ live (parent_or_init q.parent) (act_of q.machine q.reply) q.put d
    seen = seen_up has.names.name k.table pid up ∙ (ap (seen_slot has.names.name) f.asks.there ∙ alive (is_zombie_status q.status) (runs_alive f.asks.hart q.status f.asks.running))

    fits : used d + descriptors_wanted call ≤ script_descriptors lines
    fits = (subst (SlotHas (script_descriptors lines)) seen (has.all pid)).0

    long : length d ≡ 16
    long = length-map q.fds _ ∙ (sym (ap (length {A = Option ℕ}) here) ∙ settled.sound.places pid)

    seen_free : (name : ℕ → Entry) (fds : Descriptors) → free_count (fds_seen name fds) ≡ free_count fds
    seen_free name [] = refl
    seen_free name (None ∷ fds) = omega (arith, sum_by-cons (λ (y : Option Entry). cond {A = ℕ} (is_free y) 1 0) None (fds_seen name fds), sum_by-cons (λ (y : Option ℕ). cond {A = ℕ} (is_free y) 1 0) None fds, seen_free name fds)
    seen_free name (Some e ∷ fds) =
        omega (arith, sum_by-cons (λ (y : Option Entry). cond {A = ℕ} (is_free y) 1 0) (Some (name e)) (fds_seen name fds), sum_by-cons (λ (y : Option ℕ). cond {A = ℕ} (is_free y) 1 0) (Some e) fds, seen_free name fds)

    found : ⊥
    found = omega (arith, fits, few, used_free d, long, seen_free has.names.name q.fds, ap (free_count {X = ℕ}) here, f.asks.lacks)

  pub descriptor_is_free : (es : List Event) (ns : List Bool) (m : KernelState User) → run call_of next_of (Some start) es ns ≡ Some m → script_descriptors lines ≤ DESCRIPTORS → m.full ≡ Some Fds → ⊥
  descriptor_is_free es ns m is few marked = found (first_full init (shell profile (top Starts lines)) input list Fds es ns m is marked) few
