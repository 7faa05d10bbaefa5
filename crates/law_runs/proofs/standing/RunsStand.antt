-- In every run from the start in which nothing was full the kernel stands for a stage that the machine reaches.
use Rattle.std.proofs.Common.{◌≡◌, ◌≢◌, ◌⊎◌, inl, inr, ℕ, ◌+◌, ◌*◌, ◌≤◌, Bool, false, List, Some, None, refl, sym, ap, subst, arith}
use Rattle.std.specs.Prelude.{if◌then◌else◌}
use Rattle.std.proofs.lemmas.Bool.{cases_eq, eq-eqb, ne_eqb}
use Rattle.proc_table.specs.Slots.{at, is_asleep}
use Rattle.mem_files.specs.Name.{Name, Bytes}
use Rattle.mem_files.specs.Files.{files}
use Rattle.mem_files.specs.Listing.{AreFiles}
use Rattle.conflict_check.specs.Clear.{has_back}
use Rattle.script_load.specs.Line.{ScriptLine}
use Rattle.script_load.specs.declared.profile.Profile.{Profile}
use Rattle.meaning_model.specs.Meaning.{script_tree}
use Rattle.tree_model.specs.Runs.{Stage, first_stage, Reaches}
use Rattle.kernel_model.specs.declared.events.Event.{Event}
use Rattle.kernel_model.specs.declared.events.Event.TheVariants.{Dispatch, Trap}
use Rattle.kernel_model.specs.KernelState.{KernelState}
use Rattle.kernel_model.specs.Boot.{boot_kernel}
use Rattle.run_model.specs.ScriptRun.{script_kernel}
use Rattle.kernel_model.specs.Events.{happens, run}
use Rattle.sh_machine.specs.State.{User, init, shell, top}
use Rattle.sh_machine.specs.Turn.{call_of, next_of}
use Rattle.sh_machine.specs.declared.state.Phase.TheVariants.{Starts}
use Rattle.process_model.specs.Seen.{Names, view}
use Rattle.process_model.specs.Shows.{ShowsIn}
use Rattle.process_model.specs.Shape.{Node, IsShape, stands_for}
use Rattle.process_model.specs.Standing.{Stands}
use Rattle.process_model.proofs.Start.{start_stands}
use Rattle.process_model.specs.Part.{calls_left, called}
use Rattle.law_runs.specs.Consistent.{IsConsistent}
use Rattle.law_runs.specs.Seen.{IsInit, InitWaits, takes_away, waits_on}
use Rattle.law_runs.proofs.views.Named.{event_keeps_init, start_init}
use Rattle.law_runs.proofs.views.Events.{trap_seen, dispatch_quiet}
use Rattle.law_runs.proofs.views.InitSeen.{init_seen}
use Rattle.law_runs.proofs.views.Runs as runs
use Rattle.law_runs.specs.Walks.{Walks, stands, calls_in}
use Rattle.law_runs.proofs.standing.Reaching.{stage_with, reach, walks_then, reaches_plain}
use Rattle.law_runs.proofs.standing.WholeTree.{Goes, call_goes, nothing_goes, init_goes}

-- under some names the kernel has a tree, whose stage is reached from the first
pub record IsOnWay (profile : Profile) (first : Stage) (k : KernelState User) : Type 0 where
  pub names : Names
  pub tree : Node
  pub shows : ShowsIn names k
  pub shape : IsShape profile (view names k) tree
  pub has_init : IsInit k
  pub steps : ℕ
  pub way : Walks profile steps first (stage_with (stands_for tree) k.input k.out (files k.files))

-- and after one event more, whose calls are paid for by the steps of the machine
pub record IsFurther (profile : Profile) (first : Stage) (k l : KernelState User) (s : IsOnWay profile first k) (e : Event) : Type 0 where
  pub to : IsOnWay profile first l
  pub more : ℕ
  pub steps : to.steps ≡ s.steps + more
  pub pays : calls_left to.tree + calls_in e l ≤ calls_left s.tree + 15 * more

-- init's calls aren't counted, and those of others are as they are seen
init_uncounted : (l : KernelState User) (h p : ℕ) → p ≡ 0 → calls_in (Trap h p) l ≡ 0
init_uncounted l h p same = ap (λ (b : Bool). if b then 0 else (if is_asleep (at l.table p) then 0 else 1)) (eq-eqb p 0 same)

seen_called : (names : Names) (l : KernelState User) (h p : ℕ) → p ≢ 0 → calls_in (Trap h p) l ≡ called (view names l) p
unfolding called
seen_called names l h p up = ap (λ (b : Bool). if b then 0 else (if is_asleep (at l.table p) then 0 else 1)) (ne_eqb p 0 up)

module _ (profile : Profile) (first : Stage) (plain : Rattle.tree_model.specs.Moving.IsPlain first.left) (k l : KernelState User) (settled : IsConsistent k) (full : l.full ≡ None) (s : IsOnWay profile first k) where
  goes_with : (names : Names) → ShowsIn names l → IsInit l → (e : Event) (calls : ℕ) → calls_in e l ≡ calls → Goes profile (view s.names k) (view names l) calls s.tree → IsFurther profile first k l s e
  goes_with names shows has_init e calls are g =
      let w = walks_then profile s.way g.walks in
      record {
        to = record { names = names; tree = g.to; shows = shows; shape = g.shape; has_init = has_init; steps = w.0; way = w.2 };
        more = g.steps;
        steps = w.1;
        pays = omega (arith, g.pays, are);
      }

  pub event_goes : (e : Event) (n : Bool) → happens call_of next_of k e n ≡ Some l → IsFurther profile first k l s e
  event_goes (Dispatch h p) n happened =
      let d = dispatch_quiet s.names k l h p n s.shows happened in
      goes_with s.names d.0 (event_keeps_init k l (Dispatch h p) n settled s.has_init happened) (Dispatch h p) 0 refl (nothing_goes profile (view s.names k) (view s.names l) s.tree refl s.shape (ap (λ c. c + 1) d.2) d.1)
  event_goes (Trap h p) n happened = by (cases_eq p 0)
    where
      has_init : IsInit l
      has_init = event_keeps_init k l (Trap h p) n settled s.has_init happened

      by : (p ≡ 0) ⊎ (p ≢ 0) → IsFurther profile first k l s (Trap h p)
      by (inr up) =
          let seen = trap_seen s.names k l h p n up settled s.shows happened full in
          goes_with seen.names seen.shows has_init (Trap h p) (called (view seen.names l) p) (seen_called seen.names l h p up) (call_goes profile (view s.names k) (view seen.names l) s.tree refl s.shape p seen.call (reaches_plain profile (reach profile s.way) plain))
      by (inl same) =
          let w = init_seen s.names k settled s.shows h l n s.has_init (subst (λ q. happens call_of next_of k (Trap h q) n ≡ Some l) same happened) in
          goes_with s.names w.0 has_init (Trap h p) 0 (init_uncounted l h p same) (waited w.1 w.2)
        where
          waited : InitWaits (view s.names k) (view s.names l) → l.events ≡ k.events + 1 → Goes profile (view s.names k) (view s.names l) 0 s.tree
          waited (takes_away z) next = init_goes profile (view s.names k) (view s.names l) s.tree refl s.shape z
          waited (waits_on quiet) next = nothing_goes profile (view s.names k) (view s.names l) s.tree refl s.shape (ap (λ c. c + 1) next) quiet

-- what stands for a stage is reached from it by no step
pub at_first : (profile : Profile) (stage : Stage) (k : KernelState User) (s : Stands profile k stage) → Walks profile 0 stage (stage_with (stands_for s.tree) k.input k.out (files k.files))
at_first profile stage k s =
    subst (λ X. Walks profile 0 stage (stage_with X k.input k.out (files k.files))) (sym s.left)
    (subst (λ i. Walks profile 0 stage (stage_with stage.left i k.out (files k.files))) (sym s.input)
    (subst (λ o. Walks profile 0 stage (stage_with stage.left stage.input o (files k.files))) (sym s.out)
    (subst (λ F. Walks profile 0 stage (stage_with stage.left stage.input stage.out F)) (sym s.files) stands)))

-- ---- the law

pub every_run_stands : (profile : Profile) (lines : List ScriptLine) (input : Bytes) (list : List (Name × Bytes)) (events : List Event) (notes : List Bool) (m : KernelState User) → AreFiles list → has_back (script_tree lines) ≡ false → run call_of next_of (Some (script_kernel profile lines input list)) events notes ≡ Some m → m.full ≡ None → IsOnWay profile (first_stage (script_tree lines) input (files list)) m
every_run_stands profile lines input list events notes m are plain is full =
    let first = shell profile (top Starts lines) in
    let stage = first_stage (script_tree lines) input (files list) in
    let s = start_stands profile lines input list in
    runs.every_run_keeps init first input list (IsOnWay profile stage) (λ k l e n r happened was now on. (event_goes profile stage plain k l (runs.settled init first input list are k r) now on e n happened).to)
    (record { names = s.names; tree = s.tree; shows = s.shows; shape = s.shape; has_init = start_init profile lines input list; steps = 0; way = at_first profile stage (boot_kernel init first input list) s }) events notes m is full

pub stands_then : (profile : Profile) (lines : List ScriptLine) (input : Bytes) (list : List (Name × Bytes)) (events : List Event) (notes : List Bool) (m : KernelState User) → AreFiles list → has_back (script_tree lines) ≡ false → run call_of next_of (Some (script_kernel profile lines input list)) events notes ≡ Some m → m.full ≡ None → (stage : Stage) × Reaches profile (first_stage (script_tree lines) input (files list)) stage × Stands profile m stage
stands_then profile lines input list events notes m are plain is full =
    let s = every_run_stands profile lines input list events notes m are plain is full in
    (stage_with (stands_for s.tree) m.input m.out (files m.files), reach profile s.way, record { names = s.names; tree = s.tree; shows = s.shows; shape = s.shape; left = refl; files = refl; input = refl; out = refl })
