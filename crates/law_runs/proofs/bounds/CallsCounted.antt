-- Along a run of a script without & in which nothing was full the machine's steps pay for the calls that are carried out.
use Rattle.std.proofs.Common.{◌≡◌, ℕ, suc, ◌+◌, ◌*◌, ◌≤◌, Bool, false, List, [], ◌∷◌, ◌++◌, Option, Some, None, refl, sym, ap, ◌∙◌, subst, arith}
use Rattle.mem_files.specs.Name.{Name, Bytes}
use Rattle.mem_files.specs.Files.{files}
use Rattle.mem_files.specs.Listing.{AreFiles}
use Rattle.conflict_check.specs.Clear.{has_back}
use Rattle.script_load.specs.Line.{ScriptLine}
use Rattle.script_load.specs.declared.profile.Profile.{Profile}
use Rattle.meaning_model.specs.Meaning.{script_tree}
use Rattle.tree_model.specs.Runs.{Stage, first_stage, Reaches, reached, goes_on}
use Rattle.tree_model.specs.Ends.{steps_of}
use Rattle.kernel_model.specs.declared.events.Event.{Event}
use Rattle.kernel_model.specs.KernelState.{KernelState}
use Rattle.run_model.specs.ScriptRun.{script_kernel}
use Rattle.kernel_model.specs.Events.{happens, run}
use Rattle.kernel_model.proofs.Runs.{run_more}
use Rattle.kernel_model.proofs.Lasting.{run_later}
use Rattle.sh_machine.specs.State.{User, init, shell, top}
use Rattle.sh_machine.specs.Turn.{call_of, next_of}
use Rattle.sh_machine.specs.declared.state.Phase.TheVariants.{Starts}
use Rattle.process_model.specs.Part.{calls_left}
use Rattle.process_model.specs.Shape.{stands_for}
use Rattle.process_model.specs.Standing.{Stands}
use Rattle.process_model.proofs.Start.{start_stands, start_calls}
use Rattle.law_runs.proofs.views.Named.{start_init}
use Rattle.law_runs.proofs.views.Runs as runs
use Rattle.law_runs.specs.Walks.{Walks, stands, walks_on, calls_at, calls_made}
use Rattle.law_runs.proofs.standing.Reaching.{stage_with}
use Rattle.law_runs.proofs.standing.RunsStand.{IsOnWay, event_goes, at_first}

-- a walk is a run of so many steps
walked : (profile : Profile) {n : ℕ} {x y : Stage} → Walks profile n x y → (way : Reaches profile x y) × (steps_of way ≡ n)
walked profile stands = (reached, refl)
walked profile (walks_on g r) = let w = walked profile r in (goes_on g w.0, ap suc w.1)

module _ (profile : Profile) (lines : List ScriptLine) (stdin : Bytes) (list : List (Name × Bytes)) (are : AreFiles list) (plain : has_back (script_tree lines) ≡ false) where
  abbrev first : Stage
  first = first_stage (script_tree lines) stdin (files list)

  abbrev Reached : KernelState User → Type 0
  Reached k = runs.IsReached init (shell profile (top Starts lines)) stdin list k

  -- the kernel m is as much further than k as the calls allow
  record IsPaid (k m : KernelState User) (s : IsOnWay profile first k) (calls : ℕ) : Type 0 where
    to : IsOnWay profile first m
    more : ℕ
    steps : to.steps ≡ s.steps + more
    pays : calls_left to.tree + calls ≤ calls_left s.tree + 15 * more

  pays_on : (es : List Event) (ns : List Bool) (k m : KernelState User) → Reached k → run call_of next_of (Some k) es ns ≡ Some m → m.full ≡ None → (s : IsOnWay profile first k) → IsPaid k m s (calls_made call_of next_of (Some k) es ns)
  pays_on [] [] k m r is full s = let same : k ≡ m = cc in subst (λ m. IsPaid k m s 0) same (record { to = s; more = 0; steps = omega arith; pays = omega arith })
  pays_on [] (n ∷ ns) k m r is full s = absurd (let z : ⊥ = cc in z)
  pays_on (e ∷ es) [] k m r is full s = absurd (let z : ⊥ = cc in z)
  pays_on (e ∷ es) (n ∷ ns) k m r is full s = by (happens call_of next_of k e n) refl (λ l. pays_on es ns l m) is
    where
      by : (o : Option (KernelState User)) → happens call_of next_of k e n ≡ o → ((l : KernelState User) → Reached l → run call_of next_of (Some l) es ns ≡ Some m → m.full ≡ None → (s : IsOnWay profile first l) → IsPaid l m s (calls_made call_of next_of (Some l) es ns)) → run call_of next_of o es ns ≡ Some m → IsPaid k m s (calls_at call_of next_of e o + calls_made call_of next_of o es ns)
      by None happened on rest = absurd (runs.no_run es ns m rest)
      by (Some l) happened on rest =
          let now : l.full ≡ None = runs.unmarked l.full (λ f marked. let z : Some f ≡ None = sym ((run_later call_of next_of l m es ns rest).mark f marked) ∙ full in let w : ⊥ = cc in w) in
          let one = event_goes profile first plain k l (runs.settled init (shell profile (top Starts lines)) stdin list are k r) now s e n happened in
          let later = on l (record { events = r.events ++ e ∷ []; notes = r.notes ++ n ∷ []; runs = run_more call_of next_of (Some (script_kernel profile lines stdin list)) r.events r.notes k l e n r.runs happened }) rest full one.to in
          record { to = later.to; more = one.more + later.more; steps = omega (arith, one.steps, later.steps); pays = omega (arith, one.pays, later.pays) }

  -- so the whole run: at most fifteen calls a step
  pub run_pays : (events : List Event) (notes : List Bool) (m : KernelState User) → run call_of next_of (Some (script_kernel profile lines stdin list)) events notes ≡ Some m → m.full ≡ None
      → (stage : Stage) × ((way : Reaches profile first stage) × (Stands profile m stage × (calls_made call_of next_of (Some (script_kernel profile lines stdin list)) events notes ≤ 15 * steps_of way)))
  run_pays events notes m is full =
      let start = script_kernel profile lines stdin list in
      let s = start_stands profile lines stdin list in
      let begun : IsOnWay profile first start = record { names = s.names; tree = s.tree; shows = s.shows; shape = s.shape; has_init = start_init profile lines stdin list; steps = 0; way = at_first profile first start s } in
      let p = pays_on events notes start m (record { events = []; notes = []; runs = refl }) is full begun in
      let w = walked profile p.to.way in
      let none : calls_left begun.tree ≡ 0 = start_calls profile lines stdin list in (
        stage_with (stands_for p.to.tree) m.input m.out (files m.files),
        (
          w.0,
          (
            record { names = p.to.names; tree = p.to.tree; shows = p.to.shows; shape = p.to.shape; left = refl; files = refl; input = refl; out = refl },
            omega (arith, p.pays, p.steps, w.1, none),
          ),
        ),
      )
