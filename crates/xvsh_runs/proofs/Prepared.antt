-- A run of what was read is a run of the script at its path, and so is a fault of one.
use Rattle.std.proofs.Common.{◌≡◌, false, List, Option, Result, Ok, Err, subst}
use Rattle.std.specs.Prelude.{IfOk, IfErr}
use Rattle.std.specs.Borrow.{Bor}
use Rattle.mem_files.specs.Name.{Bytes}
use Rattle.script_load.specs.declared.profile.Profile.{Profile}
use Rattle.script_load.specs.Line.{lines_of}
use Rattle.dead_lines.specs.Dead.{bad_lines}
use Rattle.run_model.specs.ScriptRun.{script_kernel}
use Rattle.xvsh_read.specs.Path.{Path}
use Rattle.xvsh_read.specs.Starting.{Starts}
use Rattle.xvsh_read.specs.declared.starting.Start.{Start}
use Rattle.xvsh_read.specs.Writing.{out_text}
use Rattle.xvsh_runs.specs.declared.fault.ProcessFault.{ProcessFault}
use Rattle.xvsh_runs.specs.declared.report.Run.{Run}
use Rattle.xvsh_runs.specs.declared.request.RunRequest.{RunRequest}
use Rattle.xvsh_runs.specs.Kernels.{kernel_of}
use Rattle.xvsh_runs.specs.Runs.{RanOn, RanRun, DidRunFrom}
use Rattle.xvsh_runs.specs.Values.{HasValues, RanValues}
use Rattle.xvsh_runs.specs.Why.{IsHartsFault, IsRefusedFrom, IsRunFault, no_run}

module _ (input : Option Bytes) (file : Path → Option Bytes) (profile : Profile) (script : Path) (paths : List (Bor Path)) (start : Start) (starts : Starts input file false script paths (lines_of start.script.lines) start.files start.stdin.items) (same : start.script.profile ≡ profile) where
  abbrev pub prepared_one : (request : RunRequest) (run : Run) → DidRunFrom start request run.full (out_text run.output) run.output.err.items →
      RanRun input file profile script paths request.harts request.turns request.lists run.full (out_text run.output) run.output.err.items
  prepared_one request run ran = record {
    lines = lines_of start.script.lines;
    given = start.files;
    stdin = start.stdin.items;
    starts = starts;
    limit = ran.limit;
    limited = ran.limited;
    on = subst (λ p. RanOn (script_kernel p (lines_of start.script.lines) start.stdin.items start.files) request.harts ran.limit request.lists run.full (out_text run.output) run.output.err.items) same ran.on;
  }

  pub prepared_ran : (request : RunRequest) (result : Result Run ProcessFault) → IfOk result (λ run. DidRunFrom start request run.full (out_text run.output) run.output.err.items) →
      IfOk result (λ run. RanRun input file profile script paths request.harts request.turns request.lists run.full (out_text run.output) run.output.err.items)
  prepared_ran request (Err fault) ran = tt
  prepared_ran request (Ok run) ran = prepared_one request run ran

  pub prepared_values : (result : Result Run ProcessFault) → IfOk result (HasValues (kernel_of start)) → IfOk result (λ run. run.bad.items ≡ bad_lines (lines_of start.script.lines)) → IfOk result (RanValues input file false profile script paths)
  prepared_values (Err fault) values bad = tt
  prepared_values (Ok run) values bad = record {
    lines = lines_of start.script.lines;
    given = start.files;
    stdin = start.stdin.items;
    starts = starts;
    values = subst (λ p. HasValues (script_kernel p (lines_of start.script.lines) start.stdin.items start.files) run) same values;
    bad = bad;
  }

  pub prepared_refused : (request : RunRequest) (fault : ProcessFault) → IsRefusedFrom start request fault → IsRunFault input file profile script paths request.harts request.turns fault
  prepared_refused request fault why =
      no_run (lines_of start.script.lines) start.files start.stdin.items why.limit starts why.limited
      (subst (λ p. IsHartsFault (script_kernel p (lines_of start.script.lines) start.stdin.items start.files) request.harts why.limit fault) same why.why)

  pub prepared_fault : (request : RunRequest) (result : Result Run ProcessFault) → IfErr result (IsRefusedFrom start request) → IfErr result (IsRunFault input file profile script paths request.harts request.turns)
  prepared_fault request (Ok run) why = tt
  prepared_fault request (Err fault) why = prepared_refused request fault why
