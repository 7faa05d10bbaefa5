-- What the report of a run says of the verdict on its script.
use Rattle.std.proofs.Common.{◌≡◌, ◌≤◌, ◌∙◌, ℕ, List, inl, inr, length, sym, subst, arith}
use Rattle.std.specs.Prelude.{◌≢◌, IfSome, Option, Some, None}
use Rattle.script_load.specs.Line.{ScriptLine}
use Rattle.mem_files.specs.Files.{files}
use Rattle.kernel_model.specs.Outcome.{outcome_of}
use Rattle.kernel_model.specs.declared.events.Event.{Event}
use Rattle.kernel_model.specs.declared.events.Full.{Full}
use Rattle.kernel_model.specs.declared.events.Full.TheVariants.{Memory}
use Rattle.kernel_events.specs.declared.report.Report.{Report}
use Rattle.kernel_events.specs.Reports.{IsRunFrom}
use Rattle.grade_verdicts.specs.Agrees.{Agrees, AgreesIn}
use Rattle.grade_verdicts.specs.Judged.{AreMost, Ends, EndsInTime, HasNoRoom, IsPass, IsVerdict, ended, limited, start_of, unlimited, without_limit}
use Rattle.grade_verdicts.specs.declared.expected.Task.{Task}
use Rattle.grade_verdicts.specs.declared.verdict.Verdict.{Verdict}
use Rattle.grade_verdicts.specs.declared.verdict.Verdict.TheVariants.{NoRoom, Pass, PassEveryOrder, Spent}
use Rattle.grade_jobs.specs.Ways.{AllRunsAgree, IsNoPass, LeavesRight}

pub no_room_fails : (full : Full) → IsPass (NoRoom full) → ⊥
no_room_fails full (inl is) = let z : ⊥ = cc in z
no_room_fails full (inr is) = let z : ⊥ = cc in z

pub spent_fails : IsPass Spent → ⊥
spent_fails (inl is) = let z : ⊥ = cc in z
spent_fails (inr is) = let z : ⊥ = cc in z

-- of a pass every run in which nothing was full leaves what is expected
pub agrees_in_runs : (t : Task) (lines : List ScriptLine) (verdict : Verdict) → IsPass verdict → IsVerdict t lines verdict → AllRunsAgree t lines
agrees_in_runs t lines verdict (inl is) due = let passed = subst (IsVerdict t lines) is due in record { each = passed.meant.runs }
agrees_in_runs t lines verdict (inr is) due = let passed = subst (IsVerdict t lines) is due in record { each = passed.runs }

-- the verdict that was found
pub the_one : (t : Task) (lines : List ScriptLine) (found : Option Verdict) (verdict : Verdict) → found ≡ Some verdict → IfSome found (IsNoPass t lines) → IsNoPass t lines verdict
the_one t lines found verdict is holds = subst (λ (o : Option Verdict). IfSome o (IsNoPass t lines)) is holds

in_time : (t : Task) (lines : List ScriptLine) (turns : ℕ) (schedule : List Event) → AreMost t turns → Ends t lines schedule → length schedule ≤ turns → EndsInTime t lines
in_time t lines turns schedule (limited is) ends few = ended schedule ends (omega (arith, is, few))
in_time t lines turns schedule (unlimited none is) ends few = without_limit none

module _ {A : _} (t : Task) (lines : List ScriptLine) (report : Report A) (from : IsRunFrom (start_of t lines) report) where
  abbrev pub ends : Ends t lines report.schedule
  ends = record { notes = from.notes; last = from.last; runs = from.runs; finished = from.finished }

  -- what the report has is what the run leaves
  left : Agrees t.expected.now report.out.items (files report.files) → AgreesIn t.expected.now (outcome_of from.last)
  left a = subst (λ list. Agrees t.expected.now from.last.out (files list)) from.tells.files (subst (λ out. Agrees t.expected.now out (files report.files)) from.tells.out a)

  told : AgreesIn t.expected.now (outcome_of from.last) → Agrees t.expected.now report.out.items (files report.files)
  told a = subst (λ list. Agrees t.expected.now report.out.items (files list)) (sym from.tells.files) (subst (λ out. Agrees t.expected.now out (files from.last.files)) (sym from.tells.out) a)

  pub right : report.full ≡ None → Agrees t.expected.now report.out.items (files report.files) → LeavesRight t lines report.schedule
  right none a = record { ends = ends; roomy = sym from.tells.full ∙ none; agrees = left a }

  -- where nothing was full, the run left what is expected
  pub agrees : AllRunsAgree t lines → report.full ≡ None → Agrees t.expected.now report.out.items (files report.files)
  agrees all none = told (all.each report.schedule from.notes from.last from.runs (sym from.tells.full ∙ none) from.finished)

  filled : (full : Full) → report.full ≡ Some full → full ≢ Memory → HasNoRoom t lines full
  filled full is space = record { filled = record { schedule = report.schedule; ends = ends; filled = sym from.tells.full ∙ is }; space = space }

  -- a run in which something other than memory was full, of no more events than it may have
  pub without_room : (turns : ℕ) (verdict : Verdict) (full : Full) → AreMost t turns → length report.schedule ≤ turns → report.full ≡ Some full → (verdict ≡ NoRoom full) × (full ≢ Memory) → IsNoPass t lines verdict
  without_room turns verdict full most few is says =
      subst (IsNoPass t lines) (sym says.0)
      (record { due = filled full is says.1; time = inr (in_time t lines turns report.schedule most ends few); fails = no_room_fails full })
