-- Of a clear script the steps are bounded, and so the calls.
use Rattle.std.proofs.Common.{◌≡◌, ◌*◌, ◌≤◌, Bool, List, Some, None, arith}
use Rattle.mem_files.specs.Name.{Name, Bytes}
use Rattle.mem_files.specs.Files.{files}
use Rattle.mem_files.specs.Listing.{AreFiles}
use Rattle.script_load.specs.Line.{ScriptLine}
use Rattle.script_load.specs.declared.profile.Profile.{Profile}
use Rattle.tree_model.specs.Tidy.{IsClearScript}
use Rattle.tree_model.specs.Bound.{most_steps}
use Rattle.law_trees.proofs.tree_ends.Ending.{bounded}
use Rattle.kernel_model.specs.declared.events.Event.{Event}
use Rattle.kernel_model.specs.KernelState.{KernelState}
use Rattle.run_model.specs.ScriptRun.{script_kernel}
use Rattle.kernel_model.specs.Events.{run}
use Rattle.sh_machine.specs.State.{User}
use Rattle.sh_machine.specs.Turn.{call_of, next_of}
use Rattle.law_runs.specs.Walks.{calls_made}
use Rattle.law_runs.proofs.bounds.CallsCounted.{run_pays}

pub so_many_calls : (profile : Profile) (lines : List ScriptLine) (input : Bytes) (list : List (Name × Bytes)) (events : List Event) (notes : List Bool) (m : KernelState User) → AreFiles list → IsClearScript lines
    → run call_of next_of (Some (script_kernel profile lines input list)) events notes ≡ Some m → m.full ≡ None
    → calls_made call_of next_of (Some (script_kernel profile lines input list)) events notes ≤ 15 * most_steps lines input (files list)
so_many_calls profile lines input list events notes m are clear is full =
    let p = run_pays profile lines input list are clear.no_back events notes m is full in
    let h = bounded profile p.1.0 ((clear.clear, clear.short), clear.no_back) in
    omega (arith, p.1.1.1, h.steps)
