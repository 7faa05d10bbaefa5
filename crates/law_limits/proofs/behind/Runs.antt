-- In every run in which nothing was full yet, what all processes have is within the bound.
use Rattle.std.proofs.Common.{◌≡◌, ◌≢◌, ◌⊎◌, inl, inr, ℕ, zero, suc, ◌<◌, List, [], ◌∷◌, ◌++◌, Bool, Some, None, refl, sym, ap, ◌∙◌, subst, arith}
use Rattle.std.proofs.lemmas.Bool.{cases_eq}
use Rattle.std.specs.Prelude.{replicate}
use Rattle.user_calls.specs.declared.calls.Reply.TheVariants.{Start}
use Rattle.mem_files.specs.Name.{Name, Bytes}
use Rattle.mem_files.specs.Listing.{AreFiles}
use Rattle.script_load.specs.declared.profile.Profile.{Profile}
use Rattle.script_load.specs.Line.{ScriptLine}
use Rattle.meaning_model.specs.Meaning.{script_tree}
use Rattle.proc_table.specs.Slots.{Slot, at}
use Rattle.proc_table.proofs.Counts.{used_within}
use Rattle.kernel_model.specs.declared.events.Event.{Event}
use Rattle.kernel_model.specs.declared.events.Event.TheVariants.{Dispatch, Trap}
use Rattle.kernel_model.specs.KernelState.{KernelState, fds_at}
use Rattle.kernel_model.specs.Events.{happens, run}
use Rattle.kernel_model.proofs.Runs.{run_more}
use Rattle.sh_machine.specs.declared.state.Phase.TheVariants.{Starts}
use Rattle.sh_machine.specs.State.{User, init, shell, top}
use Rattle.sh_machine.specs.Turn.{call_of, next_of}
use Rattle.run_model.specs.ScriptRun.{script_kernel}
use Rattle.process_model.specs.Seen.{Entry, Fds, Seen, free, zombie, live, seen_slot, fds_seen, act_of, Names, View, view}
use Rattle.process_model.specs.Shape.{is_used}
use Rattle.process_model.specs.Shows.{ShowsIn}
use Rattle.process_model.proofs.Counts.{same_other}
use Rattle.process_model.proofs.Start.{start_stands}
use Rattle.law_runs.specs.Consistent.{IsConsistent}
use Rattle.law_runs.specs.Seen.{IsInit, InitWaits, takes_away, waits_on}
use Rattle.law_runs.proofs.views.Events.{trap_seen, dispatch_quiet}
use Rattle.law_runs.proofs.views.InitSeen.{init_seen}
use Rattle.law_runs.proofs.views.Named.{event_keeps_init, start_init}
use Rattle.law_runs.proofs.views.Runs as runs
use Rattle.room_model.specs.BehindProcesses.{at_once, processes_at_once}
use Rattle.room_model.proofs.Trees.{some_run}
use Rattle.law_limits.proofs.behind.Trees.{none_enough}
use Rattle.law_limits.proofs.behind.Sums.{total, total_zero}
use Rattle.law_limits.proofs.behind.Fits.{takes_fit}
use Rattle.law_limits.proofs.behind.Budget.{kid, kids, owed, SlotFits, Budget, InRange, quiet_keeps}
use Rattle.law_limits.proofs.behind.Families.{take_keeps}
use Rattle.law_limits.proofs.behind.Steps.{call_keeps}

-- ---- used slots are among the 64

pub in_range : (names : Names) (k : KernelState User) → IsConsistent k → InRange (view names k)
in_range names k settled zero used = absurd (omega (arith, used))
in_range names k settled (suc q) used = by (at k.table (suc q)) refl
  where
    by : (x : Slot User) → at k.table (suc q) ≡ x → (suc q ≢ 0) × (suc q < 64)
    by None is = absurd (omega (arith, used, ap (λ s. is_used (seen_slot names.name s)) is))
    by (Some p) is = (λ e. omega (arith, e), omega (arith, used_within k.table (suc q) p is, settled.sound.slots))

-- ---- the start

unused_fits : (q w g o k : ℕ) (s : Seen) → is_used s ≡ 0 → k ≡ 0 → SlotFits q w g o k s
unused_fits q w g o k free is none = none
unused_fits q w g o k (zombie parent) is none = absurd (omega (arith, is))
unused_fits q w g o k (live parent act n d) is none = absurd (omega (arith, is))

unused_kid : (r : ℕ) (s : Seen) → is_used s ≡ 0 → kid r s ≡ 0
unused_kid r free is = refl
unused_kid r (zombie parent) is = absurd (omega (arith, is))
unused_kid r (live parent act n d) is = absurd (omega (arith, is))

pub none_seen : (name : ℕ → Entry) (n q : ℕ) → seen_slot name (at {S = User} (replicate n None) q) ≡ free
none_seen name zero q = refl
none_seen name (suc n) zero = refl
none_seen name (suc n) (suc q) = none_seen name n q

-- init has one, and the top shell what the script needs
abbrev first_w : ℕ → ℕ → ℕ
first_w most zero = 1
first_w most (suc zero) = most
first_w most (suc (suc q)) = 0

module _ (profile : Profile) (lines : List ScriptLine) (input : Bytes) (list : List (Name × Bytes)) where
  abbrev start : KernelState User
  start = script_kernel profile lines input list

  abbrev first_names : Names
  first_names = (start_stands profile lines input list).names

  abbrev V : View
  V = view first_names start

  abbrev first_fds : Fds
  first_fds = fds_seen first_names.name (fds_at start 1)

  here : V.slots 1 ≡ live 0 (act_of (shell profile (top Starts lines)) Start) 0 first_fds
  here = refl

  others : (q : ℕ) → is_used (V.slots (suc (suc q))) ≡ 0
  others q = ap is_used (none_seen first_names.name 62 q)

  childless : (r : ℕ) → r ≢ 0 → kids V r ≡ 0
  childless r up = total_zero (λ c. kid r (V.slots c)) 0 64 each
    where
      each : (c : ℕ) → kid r (V.slots c) ≡ 0
      each zero = refl
      each (suc zero) = ap (kid r) here ∙ same_other r 0 up
      each (suc (suc c)) = unused_kid r (V.slots (suc (suc c))) (others c)

  rest_zero : (a n : ℕ) → total (first_w (at_once (script_tree lines))) (suc (suc a)) n ≡ 0
  rest_zero a zero = refl
  rest_zero a (suc n) = omega (arith, rest_zero (suc a) n)

  start_budget : Budget V (processes_at_once lines)
  start_budget = record {
    w = first_w (at_once (script_tree lines));
    g = λ q. 0;
    sum = omega (arith, rest_zero 0 62);
    init = omega arith;
    fits = fits;
  }
    where
      none : ◌≢◌ {A = ℕ} 1 0
      none e = omega (arith, e)

      fits : (q : ℕ) → q ≢ 0 → SlotFits q (first_w (at_once (script_tree lines)) q) 0 (owed V (λ q. 0) q) (kids V q) (V.slots q)
      fits zero up = absurd (up refl)
      fits (suc zero) up =
          subst (SlotFits 1 (at_once (script_tree lines)) 0 (owed V (λ q. 0) 1) (kids V 1)) (sym here)
          ((λ e. omega (arith, e)), some_run (script_tree lines), takes_fit profile (at_once (script_tree lines)) 0 (owed V (λ q. 0) 1) (kids V 1) first_fds lines (childless 1 none) (none_enough (script_tree lines)))
      fits (suc (suc q)) up = unused_fits (suc (suc q)) 0 0 _ _ (V.slots (suc (suc q))) (others q) (childless (suc (suc q)) up)

-- ---- along a run

-- under some names what all processes have is within the bound
pub record IsWithin (most : ℕ) (k : KernelState User) : Type 0 where
  pub names : Names
  pub shows : ShowsIn names k
  pub has_init : IsInit k
  pub budget : Budget (view names k) most

waits_keep : (most : ℕ) (g : Names) (k l : KernelState User) → IsConsistent k → IsConsistent l → Budget (view g k) most → InitWaits (view g k) (view g l) → Budget (view g l) most
waits_keep most g k l before later B (takes_away t) = take_keeps (view g k) (view g l) most B (in_range g k before) (in_range g l later) t
waits_keep most g k l before later B (waits_on q) = quiet_keeps (view g k) (view g l) most B q.slots

event_keeps : (most : ℕ) (k l : KernelState User) (e : Event) (n : Bool) → IsConsistent k → IsConsistent l → happens call_of next_of k e n ≡ Some l → l.full ≡ None → IsWithin most k → IsWithin most l
event_keeps most k l (Dispatch h p) n before later happened full i =
    let d = dispatch_quiet i.names k l h p n i.shows happened in
    record {
      names = i.names;
      shows = d.0;
      has_init = event_keeps_init k l (Dispatch h p) n before i.has_init happened;
      budget = quiet_keeps (view i.names k) (view i.names l) most i.budget d.1.slots;
    }
event_keeps most k l (Trap h p) n before later happened full i = by (cases_eq p 0)
  where
    stays : IsInit l
    stays = event_keeps_init k l (Trap h p) n before i.has_init happened

    by : (p ≡ 0) ⊎ (p ≢ 0) → IsWithin most l
    by (inr up) =
        let s = trap_seen i.names k l h p n up before i.shows happened full in
        record {
          names = s.names;
          shows = s.shows;
          has_init = stays;
          budget = call_keeps (view i.names k) (view s.names l) most i.budget (in_range i.names k before) (in_range s.names l later) p up s.call;
        }
    by (inl is) =
        let w = init_seen i.names k before i.shows h l n i.has_init (subst (λ q. happens call_of next_of k (Trap h q) n ≡ Some l) is happened) in
        record { names = i.names; shows = w.0; has_init = stays; budget = waits_keep most i.names k l before later i.budget w.1 }

pub every_run_is_within : (profile : Profile) (lines : List ScriptLine) (input : Bytes) (list : List (Name × Bytes)) → AreFiles list → (events : List Event) (notes : List Bool) (m : KernelState User)
    → run call_of next_of (Some (script_kernel profile lines input list)) events notes ≡ Some m → m.full ≡ None → IsWithin (processes_at_once lines) m
every_run_is_within profile lines input list are events notes m is full =
    let first = shell profile (top Starts lines) in
    runs.every_run_keeps init first input list (IsWithin (processes_at_once lines))
    (λ k l e n r happened was now holds.
    event_keeps (processes_at_once lines) k l e n (runs.settled init first input list are k r)
    (runs.settled init first input list are l (record { events = r.events ++ e ∷ []; notes = r.notes ++ n ∷ []; runs = run_more call_of next_of (Some (script_kernel profile lines input list)) r.events r.notes k l e n r.runs happened }))
    happened now holds)
    (record { names = first_names profile lines input list; shows = (start_stands profile lines input list).shows; has_init = start_init profile lines input list; budget = start_budget profile lines input list }) events notes m is full
