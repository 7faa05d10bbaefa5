use Rattle.std.proofs.Common.{codes, sym, ◌∙◌, subst, inl}
use Rattle.std.specs.Str.{bytes_eq}
use Rattle.std.proofs.lemmas.Slice.Eq.{bytes_eq-Decides}
use Rattle.script_load.specs.Line.{lines_of}
use Rattle.kernel_events.specs.Reports.{IsRunFrom}
use Rattle.run_model.specs.ScriptRun.{script_kernel}
use Rattle.schedule_lines.specs.EventLines.{AreLinesOf}
use Rattle.xvsh_read.specs.Writing.{out_text}
use Rattle.xvsh_read.proofs.Faults.{at_fault}
use Rattle.xvsh_runs.specs.Why.{shared, no_schedule, no_start_after, no_replay, unkept, IsBytesFault}
use Rattle.xvsh_runs.proofs.Moved.{both, begins, begin_fault}
use Rattle.xvsh_runs.proofs.Written.{prints_report, values_report}
use Rattle.xvsh_runs.proofs.replaying.run_replay.Goals as goal

pub returns-then-shares_input-clause-fault : goal.returns-then-shares_input-clause-fault
returns-then-shares_input-clause-fault g c =
    let schedule = c.args.request.now.schedule.now in
    let script = c.args.request.now.source.script.now in
    let two = both (bytes_eq schedule (codes "-")) (bytes_eq script (codes "-")) (sym c.shares_input.ensures ∙ c.if-shares_input.true) in
    shared ((bytes_eq-Decides schedule (codes "-")).0 two.0) ((bytes_eq-Decides script (codes "-")).0 two.1)

pub returns-in_err-bytes-clause-fault : goal.returns-in_err-bytes-clause-fault
returns-in_err-bytes-clause-fault g c =
    at_fault c.from_residual.result _ _ c.from_residual.ensures.1 (no_schedule c.in_err-bytes.ensures.fault)

pub returns-in_err-start-clause-fault : goal.returns-in_err-start-clause-fault
returns-in_err-start-clause-fault g c =
    let one = sym c.shares_input.ensures ∙ c.if-shares_input.false in
    at_fault c.from_residual-in_err-start.result _ _ c.from_residual-in_err-start.ensures.1 (no_start_after c.in_ok-bytes.bytes.items c.in_ok-bytes.ensures.bytes (begin_fault (g.H.Host.input c.args.host.now) (g.H.Host.input c.read.new.host) (g.H.Host.file c.args.host.now) (g.H.Host.file c.read.new.host) c.args.request.now.schedule.now c.args.request.now.source.script.now c.eq-is_taken.result c.eq-is_taken.ensures c.read.ensures.files_stay c.read.ensures.input_stays one c.args.request.now.source.files.now c.in_err-start.field-0.0 c.in_err-start.ensures.fault))

pub returns-in_err-report-clause-fault : goal.returns-in_err-report-clause-fault
returns-in_err-report-clause-fault g c =
    let one = sym c.shares_input.ensures ∙ c.if-shares_input.false in
    let start = c.in_ok-start.start in
    let lines = lines_of start.script.lines in
    let fault = c.in_err-report.field-0.0 in
    let starts = begins (g.H.Host.input c.args.host.now) (g.H.Host.input c.read.new.host) (g.H.Host.file c.args.host.now) (g.H.Host.file c.read.new.host) c.args.request.now.schedule.now c.args.request.now.source.script.now c.eq-is_taken.result c.eq-is_taken.ensures c.read.ensures.files_stay c.read.ensures.input_stays one c.args.request.now.source.files.now lines start.files start.stdin.items c.in_ok-start.ensures.prepared in
    at_fault c.from_residual-in_err-report.result _ _ c.from_residual-in_err-report.ensures.1 (no_replay c.in_ok-bytes.bytes.items lines start.files start.stdin.items c.in_ok-bytes.ensures.bytes starts
    (subst (λ bytes. IsBytesFault (script_kernel c.args.request.now.source.profile lines start.stdin.items start.files) c.args.request.now.schedule.now bytes fault) c.as_slice.ensures.value
    (subst (λ profile. IsBytesFault (script_kernel profile lines start.stdin.items start.files) c.args.request.now.schedule.now c.as_slice.result.now fault) c.in_ok-start.ensures.profile c.in_err-report.ensures.fault)))

pub returns-in_err-run-clause-fault : goal.returns-in_err-run-clause-fault
returns-in_err-run-clause-fault g c =
    let one = sym c.shares_input.ensures ∙ c.if-shares_input.false in
    let start = c.in_ok-start.start in
    let lines = lines_of start.script.lines in
    let starts = begins (g.H.Host.input c.args.host.now) (g.H.Host.input c.read.new.host) (g.H.Host.file c.args.host.now) (g.H.Host.file c.read.new.host) c.args.request.now.schedule.now c.args.request.now.source.script.now c.eq-is_taken.result c.eq-is_taken.ensures c.read.ensures.files_stay c.read.ensures.input_stays one c.args.request.now.source.files.now lines start.files start.stdin.items c.in_ok-start.ensures.prepared in
    at_fault c.from_residual-in_err-run.result _ _ c.from_residual-in_err-run.ensures.1 (no_replay c.in_ok-bytes.bytes.items lines start.files start.stdin.items c.in_ok-bytes.ensures.bytes starts (inl unkept))

pub returns-clause-ran : goal.returns-clause-ran
returns-clause-ran g c =
    let one = sym c.shares_input.ensures ∙ c.if-shares_input.false in
    let start = c.in_ok-start.start in
    let lines = lines_of start.script.lines in
    let report = c.in_ok-report.report in
    let run = c.in_ok-run.run' in
    record {
      bytes = c.in_ok-bytes.bytes.items;
      own = c.in_ok-bytes.ensures.bytes;
      lines = lines;
      given = start.files;
      stdin = start.stdin.items;
      starts = begins (g.H.Host.input c.args.host.now) (g.H.Host.input c.read.new.host) (g.H.Host.file c.args.host.now) (g.H.Host.file c.read.new.host) c.args.request.now.schedule.now c.args.request.now.source.script.now c.eq-is_taken.result c.eq-is_taken.ensures c.read.ensures.files_stay c.read.ensures.input_stays one c.args.request.now.source.files.now lines start.files start.stdin.items c.in_ok-start.ensures.prepared;
      events = report.schedule;
      listed = subst (λ bytes. AreLinesOf bytes report.schedule) c.as_slice.ensures.value c.in_ok-report.ensures.schedule;
      prints = prints_report (script_kernel c.args.request.now.source.profile lines start.stdin.items start.files) report c.args.request.now.lists run.full (out_text run.output) run.output.err.items (subst (λ profile. IsRunFrom (script_kernel profile lines start.stdin.items start.files) report) c.in_ok-start.ensures.profile c.in_ok-report.ensures.run) c.in_ok-run.ensures.full c.in_ok-run.ensures.out c.in_ok-run.ensures.err;
    }

pub returns-clause-values : goal.returns-clause-values
returns-clause-values g c =
    let one = sym c.shares_input.ensures ∙ c.if-shares_input.false in
    let start = c.in_ok-start.start in
    let lines = lines_of start.script.lines in
    let report = c.in_ok-report.report in
    let run = c.in_ok-run.ensures in
    record {
      lines = lines;
      given = start.files;
      stdin = start.stdin.items;
      starts = begins (g.H.Host.input c.args.host.now) (g.H.Host.input c.read.new.host) (g.H.Host.file c.args.host.now) (g.H.Host.file c.read.new.host) c.args.request.now.schedule.now c.args.request.now.source.script.now c.eq-is_taken.result c.eq-is_taken.ensures c.read.ensures.files_stay c.read.ensures.input_stays one c.args.request.now.source.files.now lines start.files start.stdin.items c.in_ok-start.ensures.prepared;
      values = values_report (script_kernel c.args.request.now.source.profile lines start.stdin.items start.files) report c.in_ok-run.run' (subst (λ profile. IsRunFrom (script_kernel profile lines start.stdin.items start.files) report) c.in_ok-start.ensures.profile c.in_ok-report.ensures.run) run.schedule run.written run.err run.files run.full;
      bad = run.bad;
    }
