-- Until a run is finished, its calls that don't sleep are those of processes other than init.
use Rattle.std.proofs.Common.{◌≡◌, ◌≢◌, ◌⊎◌, inl, inr, ℕ, ◌+◌, Bool, true, false, List, [], ◌∷◌, Option, Some, None, refl, sym, ap, ◌∙◌, subst, arith}
use Rattle.std.proofs.lemmas.Bool.{cases_eq, eq-eqb, ne_eqb}
use Rattle.std.specs.Prelude.{if◌then◌else◌, not}
use Rattle.mem_files.specs.Name.{Name, Bytes}
use Rattle.mem_files.specs.Listing.{AreFiles}
use Rattle.conflict_check.specs.Clear.{has_back}
use Rattle.script_load.specs.Line.{ScriptLine}
use Rattle.script_load.specs.declared.profile.Profile.{Profile}
use Rattle.meaning_model.specs.Meaning.{script_tree}
use Rattle.proc_table.specs.Slots.{IsAlone, Process, Slot, at, is_asleep, is_running_on, tally}
use Rattle.proc_table.specs.Calls.{some_child, zombie_child}
use Rattle.kernel_model.specs.declared.events.Event.{Event}
use Rattle.kernel_model.specs.declared.events.Event.TheVariants.{Dispatch, Trap}
use Rattle.kernel_model.specs.KernelState.{KernelState}
use Rattle.kernel_model.specs.Events.{happens, run, trapped}
use Rattle.kernel_model.proofs.Lasting.{run_later}
use Rattle.sh_machine.specs.State.{User, init, shell, top}
use Rattle.sh_machine.specs.Turn.{call_of, next_of}
use Rattle.sh_machine.specs.declared.state.Phase.TheVariants.{Starts}
use Rattle.law_kernel.specs.Kinds.{stays_awake, count_event, count_events}
use Rattle.law_runs.proofs.views.Runs as runs
use Rattle.law_runs.specs.Walks.{calls_in, calls_at, calls_made}
use Rattle.law_runs.proofs.standing.RunsStand.{every_run_stands}
use Rattle.law_runs.proofs.standing.OneFurther.{none_full}
use Rattle.law_runs.proofs.bounds.Parents.{every_run_has_parents}
use Rattle.law_runs.proofs.bounds.Alone.{its_call, further, run_stays}
use Rattle.law_runs.proofs.bounds.InitCalls.{alone_after}

-- a call of another process counts the same in both
other_counts : (k l : KernelState User) (h p : ℕ) → p ≢ 0 → tally (stays_awake k (Trap h p) l) ≡ calls_in (Trap h p) l
other_counts k l h p up = by (is_asleep (at l.table p)) ∙ sym (ap (λ (b : Bool). if b then 0 else (if is_asleep (at l.table p) then 0 else 1)) (ne_eqb p 0 up)) where
  by : (b : Bool) → tally (not b) ≡ (if b then 0 else 1)
  by true = refl
  by false = refl

module _ (profile : Profile) (lines : List ScriptLine) (stdin : Bytes) (list : List (Name × Bytes)) (are : AreFiles list) (plain : has_back (script_tree lines) ≡ false) where
  abbrev first : User
  first = shell profile (top Starts lines)

  abbrev Reached : KernelState User → Type 0
  Reached k = runs.IsReached init first stdin list k

  its_slot : (k l : KernelState User) (h : ℕ) (n : Bool) → happens call_of next_of k (Trap h 0) n ≡ Some l → (p : Process User) × (at k.table 0 ≡ Some p)
  its_slot k l h n happened = by (is_running_on h (at k.table 0)) happened
    where
      go : (x : Slot User) → at k.table 0 ≡ x → trapped call_of next_of k 0 x n ≡ Some l → (p : Process User) × (at k.table 0 ≡ Some p)
      go None is e = absurd (let z : ⊥ = cc in z)
      go (Some p) is e = (p, is)

      by : (b : Bool) → (if b then trapped call_of next_of k 0 (at k.table 0) n else None) ≡ Some l → (p : Process User) × (at k.table 0 ≡ Some p)
      by true e = go (at k.table 0) refl e
      by false e = absurd (let z : ⊥ = cc in z)

  init_alone : (k l : KernelState User) (h : ℕ) (n : Bool) → Reached k → happens call_of next_of k (Trap h 0) n ≡ Some l → l.full ≡ None → is_asleep (at l.table 0) ≡ false → IsAlone l.table
  init_alone k l h n r happened full awake =
      let s = every_run_stands profile lines stdin list r.events r.notes k are plain r.runs (none_full k l (Trap h 0) n happened full) in
      let settled = runs.settled init first stdin list are k r in
      let parents = every_run_has_parents call_of next_of init first stdin list r.events r.notes k r.runs in
      let slot = its_slot k l h n happened in
      let is = its_call k l h n s.has_init happened in
      subst (λ (m : KernelState User). is_asleep (at m.table 0) ≡ false → IsAlone m.table) is
      (alone_after profile s.names k s.tree s.shape settled.rests.family parents slot.0 slot.1 (zombie_child k.table 0) (some_child k.table 0) refl refl) awake

  -- an event leaves init alone, or is counted as a call where it doesn't sleep
  one : (k l : KernelState User) (e : Event) (n : Bool) → Reached k → happens call_of next_of k e n ≡ Some l → l.full ≡ None → IsAlone l.table ⊎ (tally (stays_awake k e l) ≡ calls_in e l)
  one k l (Dispatch h p) n r happened full = inr refl
  one k l (Trap h p) n r happened full = by (cases_eq p 0)
    where
      of_init : (b : Bool) → p ≡ 0 → is_asleep (at l.table p) ≡ b → IsAlone l.table ⊎ (tally (stays_awake k (Trap h p) l) ≡ calls_in (Trap h p) l)
      of_init true is asleep = inr (ap (λ (b : Bool). tally (not b)) asleep ∙ sym (ap (λ (b : Bool). if b then 0 else (if is_asleep (at l.table p) then 0 else 1)) (eq-eqb p 0 is)))
      of_init false is awake = inl (init_alone k l h n r (subst (λ q. happens call_of next_of k (Trap h q) n ≡ Some l) is happened) full (ap (λ q. is_asleep (at l.table q)) (sym is) ∙ awake))

      by : (p ≡ 0) ⊎ (p ≢ 0) → IsAlone l.table ⊎ (tally (stays_awake k (Trap h p) l) ≡ calls_in (Trap h p) l)
      by (inl is) = of_init (is_asleep (at l.table p)) is refl
      by (inr up) = inr (other_counts k l h p up)

  abbrev Few : KernelState User → KernelState User → List Event → List Bool → Type 0
  Few k m es ns = IsAlone m.table ⊎ (count_events call_of next_of stays_awake (Some k) es ns ≡ calls_made call_of next_of (Some k) es ns)

  pub few : (es : List Event) (ns : List Bool) (k m : KernelState User) → Reached k → run call_of next_of (Some k) es ns ≡ Some m → m.full ≡ None → Few k m es ns
  few [] [] k m r is full = inr refl
  few [] (n ∷ ns) k m r is full = absurd (let z : ⊥ = cc in z)
  few (e ∷ es) [] k m r is full = absurd (let z : ⊥ = cc in z)
  few (e ∷ es) (n ∷ ns) k m r is full = by (happens call_of next_of k e n) refl (λ l. few es ns l m) is
    where
      by : (o : Option (KernelState User)) → happens call_of next_of k e n ≡ o → ((l : KernelState User) → Reached l → run call_of next_of (Some l) es ns ≡ Some m → m.full ≡ None → Few l m es ns) → run call_of next_of o es ns ≡ Some m
          → IsAlone m.table ⊎ (count_event call_of next_of stays_awake k e o + count_events call_of next_of stays_awake o es ns ≡ calls_at call_of next_of e o + calls_made call_of next_of o es ns)
      by None happened on rest = absurd (runs.no_run es ns m rest)
      by (Some l) happened on rest = go (one k l e n r happened now) (on l there rest full)
        where
          now : l.full ≡ None
          now = runs.unmarked l.full (λ f marked. let z : Some f ≡ None = sym ((run_later call_of next_of l m es ns rest).mark f marked) ∙ full in let w : ⊥ = cc in w)

          there : Reached l
          there = further init first stdin list are k l e n r happened

          has_init : Rattle.law_runs.specs.Seen.IsInit l
          has_init = (every_run_stands profile lines stdin list there.events there.notes l are plain there.runs now).has_init

          go : IsAlone l.table ⊎ (tally (stays_awake k e l) ≡ calls_in e l) → Few l m es ns
              → IsAlone m.table ⊎ (tally (stays_awake k e l) + count_events call_of next_of stays_awake (Some l) es ns ≡ calls_in e l + calls_made call_of next_of (Some l) es ns)
          go (inl alone) later = inl (run_stays init first stdin list are es ns l m there has_init alone rest).finished
          go (inr same) (inl alone) = inl alone
          go (inr same) (inr later) = inr (omega (arith, same, later))
