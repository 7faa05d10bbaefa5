-- A finished run of a settled script gives what the script means.
use Rattle.std.proofs.Common.{◌≡◌, Bool, List, Some, None, ap, ◌∙◌}
use Rattle.mem_files.specs.Name.{Name, Bytes}
use Rattle.mem_files.specs.Files.{FileMap, files}
use Rattle.mem_files.specs.Listing.{AreFiles}
use Rattle.script_load.specs.Line.{ScriptLine}
use Rattle.script_load.specs.declared.profile.Profile.{Profile}
use Rattle.meaning_model.specs.Meaning.{script_tree, script_meaning}
use Rattle.meaning_model.specs.Settled.{IsSettledScript}
use Rattle.meaning_model.specs.Value.{Value}
use Rattle.tree_model.specs.Residual.{done}
use Rattle.tree_model.specs.Runs.{Stage, Agrees}
use Rattle.tree_model.specs.Tidy.{HasShortCommands}
use Rattle.law_trees.proofs.trees.OneAnswer.{reaches_way, first_way, done_agrees}
use Rattle.proc_table.specs.Slots.{IsAlone}
use Rattle.kernel_model.specs.declared.events.Event.{Event}
use Rattle.kernel_model.specs.KernelState.{KernelState}
use Rattle.run_model.specs.ScriptRun.{script_kernel}
use Rattle.kernel_model.specs.Events.{run}
use Rattle.sh_machine.specs.State.{User}
use Rattle.sh_machine.specs.Turn.{call_of, next_of}
use Rattle.process_model.specs.Standing.{Stands}
use Rattle.process_model.proofs.Finished.{finished}
use Rattle.law_runs.proofs.standing.RunsStand.{stands_then}

abbrev ended : KernelState User → Stage
ended m = record { left = done; input = m.input; out = m.out; files = files m.files }

-- what the stage agrees with, the kernel does
seen_agrees : (profile : Profile) (value : Value) (m : KernelState User) (stage : Stage) → Stands profile m stage → Agrees stage value → Agrees (ended m) value
seen_agrees profile value m stage s a = record {
  out = s.out ∙ a.out;
  files = λ name hard. ap (λ (F : FileMap). F name) s.files ∙ a.files name hard;
  rest = λ fixed. s.input ∙ a.rest fixed;
}

pub finished_means : (profile : Profile) (lines : List ScriptLine) (input : Bytes) (list : List (Name × Bytes)) (events : List Event) (notes : List Bool) (m : KernelState User) → AreFiles list → IsSettledScript profile lines input (files list) → HasShortCommands (script_tree lines)
    → run call_of next_of (Some (script_kernel profile lines input list)) events notes ≡ Some m → m.full ≡ None → IsAlone m.table → Agrees (ended m) (script_meaning profile lines input (files list))
finished_means profile lines input list events notes m are settled short is full alone =
    let s = stands_then profile lines input list events notes m are settled.0 is full in
    let value = script_meaning profile lines input (files list) in
    seen_agrees profile value m s.0 s.2 (done_agrees profile value s.0 (reaches_way profile value s.1 (first_way profile lines input (files list) settled short)) (finished profile m s.0 s.2 alone))
