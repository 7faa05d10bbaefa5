-- Where only init is left it stays so: init waits again and again, and changes nothing that a run leaves.
use Rattle.std.proofs.Common.{◌≡◌, ◌≢◌, ◌⊎◌, inl, inr, ℕ, List, [], ◌∷◌, ◌++◌, Bool, true, false, Option, Some, None, refl, sym, ap, ◌∙◌, subst}
use Rattle.std.proofs.lemmas.Bool.{both_ways, cases_eq}
use Rattle.std.proofs.Math.ListN.{set}
use Rattle.std.specs.Prelude.{if◌then◌else◌}
use Rattle.mem_files.specs.Name.{Name, Bytes}
use Rattle.mem_files.specs.Listing.{AreFiles}
use Rattle.user_calls.specs.declared.calls.Reply.TheVariants.{Done, Refused}
use Rattle.proc_table.specs.declared.states.Channel.TheVariants.{Children}
use Rattle.proc_table.specs.declared.states.Status.TheVariants.{Running}
use Rattle.proc_table.specs.Slots.{IsAlone, Slot, Table, at, is_running_on}
use Rattle.proc_table.specs.Calls.{dispatched, freed, made_ready, put_to_sleep, reaped, with_status, zombie_child, some_child, wait_by as wait_by_children}
use Rattle.proc_table.proofs.Changes.{written, kept}
use Rattle.kernel_model.specs.declared.events.Event.{Event}
use Rattle.kernel_model.specs.declared.events.Event.TheVariants.{Dispatch, Trap}
use Rattle.kernel_model.specs.KernelState.{KernelState}
use Rattle.kernel_model.specs.Boot.{boot_kernel}
use Rattle.run_model.specs.ScriptRun.{script_kernel}
use Rattle.kernel_model.specs.Processes.{wait, wait_by}
use Rattle.kernel_model.specs.Events.{acted, can_dispatch, counted, happens, run, trapped}
use Rattle.kernel_model.proofs.Runs.{run_more}
use Rattle.script_load.specs.Line.{ScriptLine}
use Rattle.script_load.specs.declared.profile.Profile.{Profile}
use Rattle.sh_machine.specs.State.{User, init, shell, top}
use Rattle.sh_machine.specs.declared.state.Phase.TheVariants.{Starts}
use Rattle.sh_machine.specs.Turn.{call_of, next_of}
use Rattle.law_runs.specs.Seen.{IsInit}
use Rattle.law_runs.proofs.views.Named.{event_keeps_init, start_init}
use Rattle.law_runs.proofs.views.Runs as runs
use Rattle.law_runs.specs.GoingOn.{StaysFinished}

-- ---- the table

set_alone : (t : Table User) (p : ℕ) (f : Slot User → Slot User) → f None ≡ None → IsAlone t → IsAlone (set t p (f (at t p)))
set_alone t p f free alone q up = by (cases_eq q p) where
  by : (q ≡ p) ⊎ (q ≢ p) → at (set t p (f (at t p))) q ≡ None
  by (inl is) = ap (at (set t p (f (at t p)))) is ∙ written f free t p ∙ ap f (alone p (λ z. up (is ∙ z))) ∙ free
  by (inr ne) = kept t p q (f (at t p)) ne ∙ alone q up

freed_alone : (t : Table User) (o : Option ℕ) → IsAlone t → IsAlone (freed t o)
freed_alone t None alone = alone
freed_alone t (Some child) alone = set_alone t child (λ x. None) refl alone

-- ---- init's call

pub its_call : (k l : KernelState User) (h : ℕ) (n : Bool) → IsInit k → happens call_of next_of k (Trap h 0) n ≡ Some l → wait (counted k) 0 init ≡ l
its_call k l h n is_init happened = by (is_running_on h (at k.table 0)) happened
  where
    go : (x : Slot User) → at k.table 0 ≡ x → trapped call_of next_of k 0 x n ≡ Some l → wait (counted k) 0 init ≡ l
    go None is e = absurd (let z : ⊥ = cc in z)
    go (Some q) is e =
        let machine : q.machine ≡ init = (is_init q is).0 in
        let same : Some (wait (counted k) 0 init) ≡ Some l = sym (ap (λ u. Some (acted (counted k) 0 (next_of u q.reply) (call_of u q.reply) n)) machine) ∙ e in
        cc

    by : (b : Bool) → (if b then trapped call_of next_of k 0 (at k.table 0) n else None) ≡ Some l → wait (counted k) 0 init ≡ l
    by true e = go (at k.table 0) refl e
    by false e = absurd (let z : ⊥ = cc in z)

module _ (k : KernelState User) (alone : IsAlone k.table) where
  same_as : (t : Table User) → IsAlone t → StaysFinished k (record (counted k) { table = t })
  same_as t is = record { finished = is; out = refl; diag = refl; files = refl; input = refl; full = refl }

  waits : (dead some : Option ℕ) → StaysFinished k (wait_by (counted k) 0 init (wait_by_children dead some))
  waits (Some child) some = same_as _ (set_alone (reaped k.table 0) 0 (made_ready init Done) refl (freed_alone k.table (zombie_child k.table 0) alone))
  waits None (Some child) = same_as _ (set_alone k.table 0 (put_to_sleep (Children 0) 0) refl alone)
  waits None None = same_as _ (set_alone k.table 0 (made_ready init Refused) refl alone)

  -- nobody else runs
  others_rest : (l : KernelState User) (h p : ℕ) (n : Bool) → p ≢ 0 → happens call_of next_of k (Trap h p) n ≡ Some l → ⊥
  others_rest l h p n up happened = by (is_running_on h (at k.table p)) refl happened
    where
      by : (b : Bool) → is_running_on h (at k.table p) ≡ b → (if b then trapped call_of next_of k p (at k.table p) n else None) ≡ Some l → ⊥
      by true runs e = both_ways (is_running_on h (at k.table p)) (ap (is_running_on h) (alone p up)) runs
      by false runs e = let z : ⊥ = cc in z

  event_stays : (l : KernelState User) (e : Event) (n : Bool) → IsInit k → happens call_of next_of k e n ≡ Some l → StaysFinished k l
  event_stays l (Dispatch h p) n is_init happened = by (can_dispatch k.table h p) happened
    where
      by : (b : Bool) → (if b then Some (record (counted k) { table = dispatched k.table p h }) else None) ≡ Some l → StaysFinished k l
      by true e = let same : record (counted k) { table = dispatched k.table p h } ≡ l = cc in subst (StaysFinished k) same (same_as _ (set_alone k.table p (with_status (Running h)) refl alone))
      by false e = absurd (let z : ⊥ = cc in z)
  event_stays l (Trap h p) n is_init happened = by (cases_eq p 0)
    where
      by : (p ≡ 0) ⊎ (p ≢ 0) → StaysFinished k l
      by (inl is) = subst (StaysFinished k) (its_call k l h n is_init (subst (λ q. happens call_of next_of k (Trap h q) n ≡ Some l) is happened)) (waits (zombie_child k.table 0) (some_child k.table 0))
      by (inr up) = absurd (others_rest l h p n up happened)

-- ---- along a run

then_stays : (k l m : KernelState User) → StaysFinished k l → StaysFinished l m → StaysFinished k m
then_stays k l m a b = record { finished = b.finished; out = b.out ∙ a.out; diag = b.diag ∙ a.diag; files = b.files ∙ a.files; input = b.input ∙ a.input; full = b.full ∙ a.full }

module _ (first shell : User) (input : Bytes) (list : List (Name × Bytes)) (are : AreFiles list) where
  abbrev pub Reached : KernelState User → Type 0
  Reached k = runs.IsReached first shell input list k

  pub further : (k l : KernelState User) (e : Event) (n : Bool) → Reached k → happens call_of next_of k e n ≡ Some l → Reached l
  further k l e n r happened = record { events = r.events ++ e ∷ []; notes = r.notes ++ n ∷ []; runs = run_more call_of next_of (Some (boot_kernel first shell input list)) r.events r.notes k l e n r.runs happened }

  pub run_stays : (es : List Event) (ns : List Bool) (k m : KernelState User) → Reached k → IsInit k → IsAlone k.table → run call_of next_of (Some k) es ns ≡ Some m → StaysFinished k m
  run_stays [] [] k m r has_init alone is = let same : k ≡ m = cc in subst (StaysFinished k) same (record { finished = alone; out = refl; diag = refl; files = refl; input = refl; full = refl })
  run_stays [] (n ∷ ns) k m r has_init alone is = absurd (let z : ⊥ = cc in z)
  run_stays (e ∷ es) [] k m r has_init alone is = absurd (let z : ⊥ = cc in z)
  run_stays (e ∷ es) (n ∷ ns) k m r has_init alone is = by (happens call_of next_of k e n) refl (λ l. run_stays es ns l m) is
    where
      by : (o : Option (KernelState User)) → happens call_of next_of k e n ≡ o → ((l : KernelState User) → Reached l → IsInit l → IsAlone l.table → run call_of next_of (Some l) es ns ≡ Some m → StaysFinished l m) → run call_of next_of o es ns ≡ Some m → StaysFinished k m
      by None happened on rest = absurd (runs.no_run es ns m rest)
      by (Some l) happened on rest =
          let now = event_stays k alone l e n has_init happened in
          then_stays k l m now (on l (further k l e n r happened) (event_keeps_init k l e n (runs.settled first shell input list are k r) has_init happened) now.finished rest)

  init_stays : (es : List Event) (ns : List Bool) (k m : KernelState User) → Reached k → IsInit k → run call_of next_of (Some k) es ns ≡ Some m → IsInit m
  init_stays [] [] k m r has_init is = let same : k ≡ m = cc in subst IsInit same has_init
  init_stays [] (n ∷ ns) k m r has_init is = absurd (let z : ⊥ = cc in z)
  init_stays (e ∷ es) [] k m r has_init is = absurd (let z : ⊥ = cc in z)
  init_stays (e ∷ es) (n ∷ ns) k m r has_init is = by (happens call_of next_of k e n) refl (λ l. init_stays es ns l m) is
    where
      by : (o : Option (KernelState User)) → happens call_of next_of k e n ≡ o → ((l : KernelState User) → Reached l → IsInit l → run call_of next_of (Some l) es ns ≡ Some m → IsInit m) → run call_of next_of o es ns ≡ Some m → IsInit m
      by None happened on rest = absurd (runs.no_run es ns m rest)
      by (Some l) happened on rest = on l (further k l e n r happened) (event_keeps_init k l e n (runs.settled first shell input list are k r) has_init happened) rest

-- so from a finished run of a script on
pub goes_on_finished : (profile : Profile) (lines : List ScriptLine) (input : Bytes) (list : List (Name × Bytes)) (events more : List Event) (notes later : List Bool) (k m : KernelState User) → AreFiles list
    → run call_of next_of (Some (script_kernel profile lines input list)) events notes ≡ Some k → IsAlone k.table → run call_of next_of (Some k) more later ≡ Some m → StaysFinished k m
goes_on_finished profile lines input list events more notes later k m are is alone on =
    let first = shell profile (top Starts lines) in
    let start = boot_kernel init first input list in
    let has_init = init_stays init first input list are events notes start k (record { events = []; notes = []; runs = refl }) (start_init profile lines input list) is in
    run_stays init first input list are more later k m (record { events = events; notes = notes; runs = is }) has_init alone on
