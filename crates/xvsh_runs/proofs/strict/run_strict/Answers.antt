use Rattle.std.proofs.Common.{◌≡◌, true, IsTrue, subst}
use Rattle.std.specs.Prelude.{◌↔◌, Contains}
use Rattle.mem_files.specs.Name.{Name}
use Rattle.mem_files.specs.Files.{files}
use Rattle.script_load.specs.Line.{lines_of}
use Rattle.meaning_model.specs.Meaning.{script_meaning}
use Rattle.meaning_model.specs.Settled.{IsSettledScript}
use Rattle.plain_run.specs.Reasons.{AreReasons}
use Rattle.run_model.specs.ScriptRun.{script_kernel}
use Rattle.xvsh_read.proofs.Faults.{at_fault}
use Rattle.xvsh_runs.specs.Why.{bad_order, no_start}
use Rattle.xvsh_plain.specs.Running.{IsMeaningFault}
use Rattle.xvsh_runs.specs.Values.{HasValues}
use Rattle.xvsh_runs.specs.Strict.{no_verdict, no_strict_run}
use Rattle.xvsh_runs.proofs.Prepared.{prepared_one, prepared_refused}
use Rattle.xvsh_runs.proofs.strict.run_strict.Goals as goal

pub returns-in_err-order-clause-fault : goal.returns-in_err-order-clause-fault
returns-in_err-order-clause-fault g c =
    at_fault c.from_residual.result _ _ c.from_residual.ensures.1 (no_strict_run (bad_order c.in_err-order.ensures))

pub returns-in_err-start-clause-fault : goal.returns-in_err-start-clause-fault
returns-in_err-start-clause-fault g c =
    at_fault c.from_residual-in_err-start.result _ _ c.from_residual-in_err-start.ensures.1 (no_strict_run (no_start c.in_err-start.ensures.fault))

pub returns-in_err-verdict-clause-fault : goal.returns-in_err-verdict-clause-fault
returns-in_err-verdict-clause-fault g c =
    let start = c.in_ok-start.start in
    let lines = lines_of start.script.lines in
    at_fault c.from_residual-in_err-verdict.result _ _ c.from_residual-in_err-verdict.ensures.1 (no_verdict lines start.files start.stdin.items c.in_ok-start.ensures.prepared (subst (λ profile. IsMeaningFault profile lines start.stdin.items (files start.files) c.in_err-verdict.field-0.0) c.in_ok-start.ensures.profile c.in_err-verdict.ensures.fault))

pub returns-in_err-run-clause-fault : goal.returns-in_err-run-clause-fault
returns-in_err-run-clause-fault g c =
    let start = c.in_ok-start.start in
    at_fault c.from_residual-in_err-run.result _ _ c.from_residual-in_err-run.ensures.1
    (no_strict_run (prepared_refused (g.H.Host.input c.args.host.now) (g.H.Host.file c.args.host.now) c.args.request.now.source.profile c.args.request.now.source.script.now c.args.request.now.source.files.now start c.in_ok-start.ensures.prepared c.in_ok-start.ensures.profile c.args.request.now c.in_err-run.field-0.0 c.in_err-run.ensures.fault))

pub returns-clause-ran : goal.returns-clause-ran
returns-clause-ran g c =
    let start = c.in_ok-start.start in
    let lines = lines_of start.script.lines in
    let given = start.files in
    let stdin = start.stdin.items in
    let same = c.in_ok-start.ensures.profile in
    record {
      ran = prepared_one (g.H.Host.input c.args.host.now) (g.H.Host.file c.args.host.now) c.args.request.now.source.profile c.args.request.now.source.script.now c.args.request.now.source.files.now start c.in_ok-start.ensures.prepared same c.args.request.now c.in_ok-run.run' c.in_ok-run.ensures.ran;
      settled = subst (λ profile. IsTrue c.in_ok-verdict.verdict.is_settled ↔ IsSettledScript profile lines stdin (files given)) same c.in_ok-verdict.ensures.settled;
      why = subst (λ profile. AreReasons profile lines stdin (files given) c.in_ok-verdict.verdict.reasons.items) same c.in_ok-verdict.ensures.why;
    }

pub returns-clause-values : goal.returns-clause-values
returns-clause-values g c =
    let start = c.in_ok-start.start in
    let lines = lines_of start.script.lines in
    let given = start.files in
    let stdin = start.stdin.items in
    let same = c.in_ok-start.ensures.profile in
    record {
      values = record {
        lines = lines;
        given = given;
        stdin = stdin;
        starts = c.in_ok-start.ensures.prepared;
        values = subst (λ profile. HasValues (script_kernel profile lines stdin given) c.in_ok-run.run') same c.in_ok-run.ensures.values;
        bad = c.in_ok-run.ensures.bad;
      };
      each = subst (λ profile. (name : Name) → Contains c.in_ok-verdict.verdict.soft name ↔ ((script_meaning profile lines stdin (files given)).soft name ≡ true)) same c.in_ok-verdict.ensures.soft;
      why = subst (λ profile. AreReasons profile lines stdin (files given) c.in_ok-verdict.verdict.reasons.items) same c.in_ok-verdict.ensures.why;
    }
