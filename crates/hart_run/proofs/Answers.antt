-- A finished run of the kernel gives the meaning of a settled script, and a report has what the run left.
use Rattle.std.proofs.Common.{◌≡◌, ◌∙◌, ◌⊎◌, inl, inr, List, Some, None, true, sym, ap}
use Rattle.std.specs.Prelude.{IfOk, Result}
use Rattle.std.proofs.lemmas.Result.{IfOk-weaker}
use Rattle.mem_files.specs.Name.{Name, Bytes}
use Rattle.mem_files.specs.Files.{files}
use Rattle.mem_files.specs.Listing.{AreFiles}
use Rattle.script_load.specs.declared.profile.Profile.{Profile}
use Rattle.script_load.specs.Line.{ScriptLine}
use Rattle.script_load.specs.Limits.{are_small}
use Rattle.kernel_events.specs.declared.report.Report.{Report}
use Rattle.meaning_model.specs.Meaning.{script_meaning}
use Rattle.kernel_model.specs.declared.events.Full.TheVariants.{Memory}
use Rattle.law_runs.proofs.room.Roomy.{only_memory}
use Rattle.hart_run.specs.Answer.{IsAnswer, IsAnswerIfRoomy, IsAnswerIfSettled}
use Rattle.kernel_events.specs.Reports.{IsRunFrom}
use Rattle.run_model.specs.ScriptRun.{script_kernel}
use Rattle.law_runs.proofs.standing.RunsEnd.{finished_means}
use Rattle.law_trees.proofs.trees.Short.{small_short}

pub answer : {A : _} (profile : Profile) (lines : List ScriptLine) (input : Bytes) (list : List (Name × Bytes)) (report : Report A) → are_small lines ≡ true → AreFiles list → IsRunFrom (script_kernel profile lines input list) report → IsAnswerIfSettled profile lines input list report
answer profile lines input list report small are ran settled quiet =
    let agrees = finished_means profile lines input list report.schedule ran.notes ran.last are settled (small_short lines small) ran.runs (sym ran.tells.full ∙ quiet) ran.finished in
    record {
      out = ran.tells.out ∙ agrees.out;
      files = λ name hard. ap (λ fs. files fs name) ran.tells.files ∙ agrees.files name hard;
    }

-- of what may be such a report
pub answered : {A : _} {E : Type 0} (profile : Profile) (lines : List ScriptLine) (input : Bytes) (list : List (Name × Bytes)) (ran : Result (Report A) E) → are_small lines ≡ true → AreFiles list → IfOk ran (IsRunFrom (script_kernel profile lines input list)) → IfOk ran (IsAnswerIfSettled profile lines input list)
answered profile lines input list ran small are runs =
    IfOk-weaker ran (IsRunFrom (script_kernel profile lines input list)) (IsAnswerIfSettled profile lines input list) (λ report is. answer profile lines input list report small are is) runs

-- where the script has room, nothing but memory was full
pub roomy_answer : {A : _} (profile : Profile) (lines : List ScriptLine) (input : Bytes) (list : List (Name × Bytes)) (report : Report A) → are_small lines ≡ true → AreFiles list → IsRunFrom (script_kernel profile lines input list) report → IsAnswerIfRoomy profile lines input list report
roomy_answer profile lines input list report small are ran settled roomy =
    by (only_memory profile lines input list are roomy report.schedule ran.notes ran.last ran.runs (record { no_back = settled.0; clear = settled.1; short = small_short lines small }))
  where
    by : (ran.last.full ≡ None) ⊎ (ran.last.full ≡ Some Memory) → ((report.full ≡ None) × IsAnswer (script_meaning profile lines input (files list)) report) ⊎ (report.full ≡ Some Memory)
    by (inl none) = inl (ran.tells.full ∙ none, answer profile lines input list report small are ran settled (ran.tells.full ∙ none))
    by (inr memory) = inr (ran.tells.full ∙ memory)

pub roomy_answered : {A : _} {E : Type 0} (profile : Profile) (lines : List ScriptLine) (input : Bytes) (list : List (Name × Bytes)) (ran : Result (Report A) E) → are_small lines ≡ true → AreFiles list → IfOk ran (IsRunFrom (script_kernel profile lines input list)) → IfOk ran (IsAnswerIfRoomy profile lines input list)
roomy_answered profile lines input list ran small are runs =
    IfOk-weaker ran (IsRunFrom (script_kernel profile lines input list)) (IsAnswerIfRoomy profile lines input list) (λ report is. roomy_answer profile lines input list report small are is) runs
