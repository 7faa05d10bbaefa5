-- Runs in every way are runs under the same test.
use Rattle.std.proofs.Common.{◌≡◌, sym}
use Rattle.std.specs.Prelude.{None}
use Rattle.mem_files.specs.Name.{Bytes}
use Rattle.mem_files.specs.Files.{files}
use Rattle.script_load.specs.Line.{ScriptLine}
use Rattle.kernel_model.specs.declared.events.Event.{Event}
use Rattle.kernel_runs.specs.Room.{EndsBy}
use Rattle.kernel_model.specs.Outcome.{outcome_of}
use Rattle.grade_verdicts.specs.Agrees.{AgreesIn}
use Rattle.grade_verdicts.specs.Judged.{start_of}
use Rattle.grade_verdicts.specs.Same.{IsCopyOf, IsSameTask}
use Rattle.grade_verdicts.specs.declared.expected.Task.{Task}
use Rattle.grade_verdicts.specs.declared.verdict.Verdict.{Verdict}
use Rattle.grade_verdicts.proofs.Shared.{agrees, at_start, passes_too}
use Rattle.grade_jobs.specs.Ways.{LeavesRight, RunsInEveryWay, RunsRight, RunsRightInEveryWay}
use Rattle.grade_jobs.specs.declared.ways.Way.{Way}

module _ (t u : Task) (same : IsSameTask t u) where
  right : (lines : _) (schedule : _) → LeavesRight t lines schedule → LeavesRight u lines schedule
  right lines schedule r =
      let moved = at_start t u same lines (λ k. (ends : EndsBy k schedule) × (ends.last.full ≡ None) × AgreesIn u.expected.now (outcome_of ends.last))
      (r.ends, r.roomy, agrees t u same _ _ r.agrees) in
      record { ends = moved.0; roomy = moved.1; agrees = moved.2 }

  runs_right : (lines : _) (way : Way) → RunsRight t lines way → RunsRight u lines way
  runs_right lines way r = record { schedule = r.schedule; harts = r.harts; right = right lines r.schedule r.right }

  in_every_way : (bytes : Bytes) → RunsInEveryWay t bytes → RunsInEveryWay u bytes
  in_every_way bytes r = record { lines = r.lines; script = r.script; ways = λ k d less. runs_right r.lines _ (r.ways k d less) }

-- and of a verdict that says the same
pub shared_ways : (t u : Task) (bytes : Bytes) (verdict copy : Verdict) → IsSameTask t u → IsCopyOf verdict copy → RunsRightInEveryWay t bytes verdict → RunsRightInEveryWay u bytes copy
shared_ways t u bytes verdict copy same is runs = λ pass. in_every_way t u same bytes (runs (passes_too verdict copy is pass))
