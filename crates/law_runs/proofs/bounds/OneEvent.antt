-- One event of a run: the machine's steps pay for it.
use Rattle.std.proofs.Common.{◌≡◌, Bool, false, List, Some, None, refl, arith}
use Rattle.mem_files.specs.Name.{Name, Bytes}
use Rattle.mem_files.specs.Files.{files}
use Rattle.mem_files.specs.Listing.{AreFiles}
use Rattle.conflict_check.specs.Clear.{has_back}
use Rattle.script_load.specs.Line.{ScriptLine}
use Rattle.script_load.specs.declared.profile.Profile.{Profile}
use Rattle.meaning_model.specs.Meaning.{script_tree}
use Rattle.kernel_model.specs.declared.events.Event.{Event}
use Rattle.kernel_model.specs.KernelState.{KernelState}
use Rattle.run_model.specs.ScriptRun.{script_kernel}
use Rattle.kernel_model.specs.Events.{happens, run}
use Rattle.sh_machine.specs.State.{User, init, shell, top}
use Rattle.sh_machine.specs.Turn.{call_of, next_of}
use Rattle.sh_machine.specs.declared.state.Phase.TheVariants.{Starts}
use Rattle.process_model.specs.Shape.{stands_for}
use Rattle.law_runs.proofs.views.Runs as runs
use Rattle.law_runs.specs.Walks.{stands}
use Rattle.law_runs.proofs.standing.Reaching.{stage_with, reach, reaches_plain}
use Rattle.law_runs.proofs.standing.RunsStand.{IsOnWay, event_goes, every_run_stands}
use Rattle.law_runs.proofs.standing.OneFurther.{none_full}
use Rattle.law_runs.specs.Paid.{IsPaidFor}

pub paid_for : (profile : Profile) (lines : List ScriptLine) (input : Bytes) (list : List (Name × Bytes)) (events : List Event) (notes : List Bool) (k : KernelState User) (e : Event) (n : Bool) (l : KernelState User) → AreFiles list → has_back (script_tree lines) ≡ false
    → run call_of next_of (Some (script_kernel profile lines input list)) events notes ≡ Some k → happens call_of next_of k e n ≡ Some l → l.full ≡ None → IsPaidFor profile k e l
paid_for profile lines input list events notes k e n l are plain is happened full =
    let s = every_run_stands profile lines input list events notes k are plain is (none_full k l e n happened full) in
    let before = stage_with (stands_for s.tree) k.input k.out (files k.files) in
    let here : IsOnWay profile before k = record { names = s.names; tree = s.tree; shows = s.shows; shape = s.shape; has_init = s.has_init; steps = 0; way = stands } in
    let t = event_goes profile before (reaches_plain profile (reach profile s.way) plain) k l (runs.settled init (shell profile (top Starts lines)) input list are k (record { events = events; notes = notes; runs = is })) full here e n happened in
    record {
      before = before;
      after = stage_with (stands_for t.to.tree) l.input l.out (files l.files);
      was = record { names = s.names; tree = s.tree; shows = s.shows; shape = s.shape; left = refl; files = refl; input = refl; out = refl };
      now = record { names = t.to.names; tree = t.to.tree; shows = t.to.shows; shape = t.to.shape; left = refl; files = refl; input = refl; out = refl };
      steps = t.to.steps;
      walk = t.to.way;
      pays = omega (arith, t.pays, t.steps);
    }
