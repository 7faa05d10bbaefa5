-- Nobody awake can't be: the tree would be over, and init would sleep without a child that lives.
use Rattle.std.proofs.Common.{◌≡◌, ◌≢◌, ◌⊎◌, inl, inr, ℕ, Bool, true, false, List, Some, None, refl, sym, ap, ◌∙◌, arith}
use Rattle.std.specs.Prelude.{◌&&◌}
use Rattle.std.proofs.lemmas.Bool.{both_ways}
use Rattle.mem_files.specs.Name.{Name, Bytes}
use Rattle.mem_files.specs.Listing.{AreFiles}
use Rattle.conflict_check.specs.Clear.{has_back}
use Rattle.script_load.specs.Line.{ScriptLine}
use Rattle.script_load.specs.declared.profile.Profile.{Profile}
use Rattle.meaning_model.specs.Meaning.{script_tree}
use Rattle.proc_table.specs.Slots.{Slot, Process, at, is_child_of, is_zombie, is_zombie_child_of, is_zombie_status}
use Rattle.kernel_model.specs.declared.events.Event.{Event}
use Rattle.kernel_model.specs.KernelState.{KernelState}
use Rattle.run_model.specs.ScriptRun.{script_kernel}
use Rattle.kernel_model.specs.Events.{run}
use Rattle.law_kernel.specs.Asking.{AllAsk}
use Rattle.law_kernel.specs.Sleeping.{WaitsForChild}
use Rattle.law_kernel.proofs.kernel.AskRuns.{every_run_asks}
use Rattle.sh_machine.specs.State.{User, init, shell, top}
use Rattle.sh_machine.specs.Turn.{call_of, next_of}
use Rattle.sh_machine.specs.declared.state.Phase.TheVariants.{Starts}
use Rattle.process_model.specs.Seen.{Entry, input, out, Seen, free, zombie, live, seen_by, seen_slot, Names, view}
use Rattle.process_model.specs.Shows.{ShowsIn}
use Rattle.process_model.specs.Effect.{Holds}
use Rattle.process_model.specs.Shape.{Node, reaped, gone, Has, IsShape, occurs, is_up, is_used}
use Rattle.process_model.proofs.Counts.{same_yes}
use Rattle.law_runs.specs.Consistent.{IsConsistent}
use Rattle.law_runs.specs.Seen.{IsInit}
use Rattle.law_runs.proofs.views.Tables.{seen_up}
use Rattle.law_runs.proofs.views.Runs as runs
use Rattle.law_runs.proofs.standing.RunsStand.{every_run_stands}
use Rattle.law_runs.specs.Awake.{IsAwake}
use Rattle.law_runs.proofs.never_stuck.Blocked.{Waits, is_over, on_input, on_output, Whole}
use Rattle.law_runs.proofs.never_stuck.Deciding.{AllAsleep, awake_or_asleep}
use Rattle.law_runs.proofs.never_stuck.Sleepers.{all_blocked, init_waits}
use Rattle.law_runs.proofs.never_stuck.Waiting.{waits}

holder_used : (s : Seen) (e : Entry) → Holds s e → is_used s ≡ 1
holder_used free e h = absurd h
holder_used (zombie q) e h = absurd h
holder_used (live q act put d) e h = refl

pub used_by : (name : ℕ → Entry) (b : Bool) (y : Process User) → is_used (seen_by b name y) ≡ 1
used_by name true y = refl
used_by name false y = refl

child_used : (name : ℕ → Entry) (s : Slot User) → is_child_of 0 s ≡ true → is_used (seen_slot name s) ≡ 1
child_used name None is = absurd (let z : ⊥ = cc in z)
child_used name (Some y) is = used_by name (is_zombie_status y.status) y

dead_by : (name : ℕ → Entry) (b : Bool) (y : Process User) → seen_by b name y ≡ zombie 0 → b ≡ true
dead_by name true y is = refl
dead_by name false y is = absurd (let z : ⊥ = cc in z)

dead_slot : (name : ℕ → Entry) (s : Slot User) → seen_slot name s ≡ zombie 0 → is_zombie s ≡ true
dead_slot name None is = absurd (let z : ⊥ = cc in z)
dead_slot name (Some y) is = dead_by name (is_zombie_status y.status) y is

module _ (profile : Profile) (g : Names) (k : KernelState User) (t : Node) (shows : ShowsIn g k) (shape : IsShape profile (view g k) t) (has_init : IsInit k) (settled : IsConsistent k) where
  -- init has a child that lives, so the tree isn't over
  over_not : (s : Node) → Has profile (view g k) input out out 0 s → ((q : ℕ) → occurs q s ≡ is_used ((view g k).slots q)) → is_up s ≡ 0 → WaitsForChild k.table 0 → ⊥
  over_not s has all down waits = by s has all down
    where
      child : ℕ
      child = waits.child.0

      up : child ≢ 0
      up is = both_ways (is_child_of 0 (at k.table 0)) (settled.rests.family.eldest 0) (ap (λ n. is_child_of 0 (at k.table n)) (sym is) ∙ waits.child.1)

      used : is_used ((view g k).slots child) ≡ 1
      used = ap is_used (seen_up g.name k.table child up) ∙ child_used g.name (at k.table child) waits.child.1

      by : (s : Node) → Has profile (view g k) input out out 0 s → ((q : ℕ) → occurs q s ≡ is_used ((view g k).slots q)) → is_up s ≡ 0 → ⊥
      by reaped has all down = omega (arith, all child, used)
      by (gone p) has all down =
          let is : child ≡ p = same_yes child p (omega (arith, all child, used)) in
          let dead : is_zombie (at k.table child) ≡ true = dead_slot g.name (at k.table child) (sym (seen_up g.name k.table child up) ∙ ap ((view g k).slots) is ∙ has) in
          both_ways (is_zombie_child_of 0 (at k.table child)) (waits.living child) (λ i. waits.child.1 i && dead i)
      by _ has all down = omega (arith, down)

  whole : Whole profile (view g k) input out out 0 t
  whole = record {
    has = shape.has;
    apart = λ n. omega (arith, shape.once n);
    inside = λ q n e end h some. omega (arith, shape.all q, holder_used ((view g k).slots q) e h);
  }

  pub not_all_sleep : AllAsk call_of k → AllAsleep k.table → ⊥
  not_all_sleep asks asleep = by (waits profile (view g k) (all_blocked g k settled shows has_init asks asleep) input out out 0 t whole)
    where
      by : Waits (view g k) input out t → ⊥
      by (is_over down) = over_not t shape.has shape.all down (init_waits g k settled shows has_init asks asleep)
      by (on_input it) = it
      by (on_output it) = it

-- so in every run from the start of a script without & in which nothing was full, somebody is awake
pub somebody_is_awake : (profile : Profile) (lines : List ScriptLine) (stdin : Bytes) (list : List (Name × Bytes)) (events : List Event) (notes : List Bool) (m : KernelState User) → AreFiles list → has_back (script_tree lines) ≡ false → run call_of next_of (Some (script_kernel profile lines stdin list)) events notes ≡ Some m → m.full ≡ None → IsAwake m.table
somebody_is_awake profile lines stdin list events notes m are plain is full = by (awake_or_asleep m.table)
  where
    by : IsAwake m.table ⊎ AllAsleep m.table → IsAwake m.table
    by (inl awake) = awake
    by (inr asleep) =
        let s = every_run_stands profile lines stdin list events notes m are plain is full in
        let settled = runs.settled init (shell profile (top Starts lines)) stdin list are m (record { events = events; notes = notes; runs = is }) in
        absurd (not_all_sleep profile s.names m s.tree s.shows s.shape s.has_init settled (every_run_asks call_of next_of init (shell profile (top Starts lines)) stdin list events notes m are is) asleep)
