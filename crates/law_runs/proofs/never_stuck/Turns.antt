-- Where nobody runs somebody is Runnable, so a run is spent only by its turns.
use Rattle.std.proofs.Common.{◌≡◌, ◌⊎◌, inl, inr, ℕ, ◌+◌, ◌<◌, ◌≤◌, List, true, false, Some, None, length, refl, sym, ap, ◌∙◌, subst, arith}
use Rattle.std.specs.Prelude.{All, count_by}
use Rattle.std.proofs.lemmas.Bool.{both_ways}
use Rattle.std.proofs.lemmas.List.Elements.{All-get_or}
use Rattle.mem_files.specs.Name.{Name, Bytes}
use Rattle.mem_files.specs.Listing.{AreFiles}
use Rattle.conflict_check.specs.Clear.{has_back}
use Rattle.script_load.specs.Line.{ScriptLine}
use Rattle.script_load.specs.declared.profile.Profile.{Profile}
use Rattle.meaning_model.specs.Meaning.{script_tree}
use Rattle.proc_table.specs.Slots.{Table, Slot, at, is_runnable, is_running}
use Rattle.proc_table.proofs.Counts.{used_within}
use Rattle.kernel_model.specs.KernelState.{KernelState}
use Rattle.kernel_model.specs.Booted.{IsBooted}
use Rattle.kernel_model.specs.Events.{run}
use Rattle.kernel_model.specs.History.{History}
use Rattle.law_kernel.proofs.kernel.Held.{there_is_counted}
use Rattle.sh_machine.specs.State.{User}
use Rattle.sh_machine.specs.Turn.{call_of, next_of}
use Rattle.run_model.specs.ScriptRun.{IsSpentFrom, script_kernel}
use Rattle.law_runs.specs.Awake.{IsAwake}
use Rattle.run_model.specs.Plain.{IsPlainRun}
use Rattle.law_runs.proofs.never_stuck.Never.{somebody_is_awake}

runs_counted : {S : Type 0} (t : Table S) (q : ℕ) (x : Slot S) → at t q ≡ x → is_running x ≡ true → 1 ≤ count_by is_running t
runs_counted t q None is runs = absurd (let z : ⊥ = cc in z)
runs_counted t q (Some p) is runs = there_is_counted is_running t q None (used_within t q p is) (ap is_running is ∙ runs)

ready_not : {S : Type 0} (t : Table S) (q : ℕ) (x : Slot S) → at t q ≡ x → is_runnable x ≡ true → All (λ slot. is_runnable slot ≡ false) t → ⊥
ready_not t q None is ready none = let z : ⊥ = cc in z
ready_not t q (Some p) is ready none = both_ways (is_runnable (at t q)) (All-get_or (λ slot. is_runnable slot ≡ false) t q None (used_within t q p is) none) (ap is_runnable is ∙ ready)

-- where nothing is Runnable, somebody runs
pub one_runs : {S : Type 0} (t : Table S) → IsAwake t → All (λ slot. is_runnable slot ≡ false) t → 1 ≤ count_by is_running t
one_runs t awake none = by awake.awake
  where
    by : (is_runnable (at t awake.pid) ≡ true) ⊎ (is_running (at t awake.pid) ≡ true) → 1 ≤ count_by is_running t
    by (inl ready) = absurd (ready_not t awake.pid (at t awake.pid) refl ready none)
    by (inr runs) = runs_counted t awake.pid (at t awake.pid) refl runs

pub spends_turns : (profile : Profile) (lines : List ScriptLine) (input : Bytes) (list : List (Name × Bytes)) (turns : ℕ) → AreFiles list → has_back (script_tree lines) ≡ false → (s : IsSpentFrom (script_kernel profile lines input list) turns) → s.last.full ≡ None → turns < length s.events + 2
spends_turns profile lines input list turns are plain s full = by s.spent.over
  where
    awake : IsAwake s.last.table
    awake = somebody_is_awake profile lines input list s.events s.notes s.last are plain s.runs full

    by : (turns < length s.events + 2) ⊎ All (λ slot. is_runnable slot ≡ false) s.last.table → turns < length s.events + 2
    by (inl few) = few
    by (inr none) = absurd (omega (arith, s.spent.idle, one_runs s.last.table awake none))

-- of the kernel that a history comes to
pub awake_then : (h : History User) → IsBooted h.boot → run call_of next_of (Some h.boot) h.schedule h.notes ≡ Some h.now → IsPlainRun h → IsAwake h.now.table
awake_then h booted replays p =
    let start : h.boot ≡ script_kernel p.profile p.lines p.input p.files = p.begun in
    let same : booted.files ≡ p.files = ap (λ (k : KernelState User). k.files) (sym booted.start ∙ start) in
    somebody_is_awake p.profile p.lines p.input p.files h.schedule h.notes h.now (subst AreFiles same booted.are) p.plain
    (ap (λ (k : KernelState User). run call_of next_of (Some k) h.schedule h.notes) (sym start) ∙ replays) p.roomy
