-- One event more of a run: the machine goes on from the stage before it to the one after it.
use Rattle.std.proofs.Common.{◌≡◌, Bool, false, List, [], ◌∷◌, Option, Some, None, refl, sym, ◌∙◌}
use Rattle.mem_files.specs.Name.{Name, Bytes}
use Rattle.mem_files.specs.Files.{files}
use Rattle.mem_files.specs.Listing.{AreFiles}
use Rattle.conflict_check.specs.Clear.{has_back}
use Rattle.script_load.specs.Line.{ScriptLine}
use Rattle.script_load.specs.declared.profile.Profile.{Profile}
use Rattle.meaning_model.specs.Meaning.{script_tree}
use Rattle.tree_model.specs.Runs.{Stage, first_stage, Reaches}
use Rattle.kernel_model.specs.declared.events.Event.{Event}
use Rattle.kernel_model.specs.declared.events.Full.{Full}
use Rattle.kernel_model.specs.KernelState.{KernelState}
use Rattle.run_model.specs.ScriptRun.{script_kernel}
use Rattle.kernel_model.specs.Events.{happens, run}
use Rattle.kernel_model.proofs.Lasting.{run_later}
use Rattle.sh_machine.specs.State.{User, init, shell, top}
use Rattle.sh_machine.specs.Turn.{call_of, next_of}
use Rattle.sh_machine.specs.declared.state.Phase.TheVariants.{Starts}
use Rattle.process_model.specs.Shape.{stands_for}
use Rattle.process_model.specs.Standing.{Stands}
use Rattle.law_runs.proofs.views.Runs as runs
use Rattle.law_runs.specs.Walks.{stands}
use Rattle.law_runs.proofs.standing.Reaching.{stage_with, reach, reaches_plain}
use Rattle.law_runs.proofs.standing.RunsStand.{IsOnWay, event_goes, every_run_stands}

-- nothing was full before, where nothing is now
pub none_full : (k l : KernelState User) (e : Event) (n : Bool) → happens call_of next_of k e n ≡ Some l → l.full ≡ None → k.full ≡ None
none_full k l e n happened full = by k.full refl
  where
    by : (o : Option Full) → k.full ≡ o → k.full ≡ None
    by None is = is
    by (Some f) is = absurd (let z : Some f ≡ None = sym ((run_later call_of next_of k l (e ∷ []) (n ∷ []) happened).mark f is) ∙ full in let w : ⊥ = cc in w)

-- a kernel on the way stands for its stage
stands_so : (profile : Profile) (first : Stage) (k : KernelState User) (s : IsOnWay profile first k) → Stands profile k (stage_with (stands_for s.tree) k.input k.out (files k.files))
stands_so profile first k s = record { names = s.names; tree = s.tree; shows = s.shows; shape = s.shape; left = refl; files = refl; input = refl; out = refl }

pub goes_further : (profile : Profile) (lines : List ScriptLine) (input : Bytes) (list : List (Name × Bytes)) (events : List Event) (notes : List Bool) (k : KernelState User) (e : Event) (n : Bool) (l : KernelState User) → AreFiles list → has_back (script_tree lines) ≡ false
    → run call_of next_of (Some (script_kernel profile lines input list)) events notes ≡ Some k → happens call_of next_of k e n ≡ Some l → l.full ≡ None
    → (before : Stage) × ((after : Stage) × (Reaches profile (first_stage (script_tree lines) input (files list)) before × Stands profile k before × Reaches profile before after × Stands profile l after))
goes_further profile lines input list events notes k e n l are plain is happened full =
    let s = every_run_stands profile lines input list events notes k are plain is (none_full k l e n happened full) in
    let before = stage_with (stands_for s.tree) k.input k.out (files k.files) in
    let here : IsOnWay profile before k = record { names = s.names; tree = s.tree; shows = s.shows; shape = s.shape; has_init = s.has_init; steps = 0; way = stands } in
    let t = (event_goes profile before (reaches_plain profile (reach profile s.way) plain) k l (runs.settled init (shell profile (top Starts lines)) input list are k (record { events = events; notes = notes; runs = is })) full here e n happened).to in
    (before, (stage_with (stands_for t.tree) l.input l.out (files l.files), (reach profile s.way, stands_so profile (first_stage (script_tree lines) input (files list)) k s, reach profile t.way, stands_so profile before l t)))
