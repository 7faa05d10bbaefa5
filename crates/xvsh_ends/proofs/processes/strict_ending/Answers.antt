use Rattle.std.proofs.Common.{true, map}
use Rattle.reason_sentences.specs.Sentences.{first_text, reason_text}
use Rattle.xvsh_read.specs.Writing.{out_text}
use Rattle.xvsh_ends.specs.Ends.{ran_strict, no_strict}
use Rattle.xvsh_ends.specs.Requests.{json_asked, run_asked}
use Rattle.xvsh_ends.proofs.Dues.{due_memory}
use Rattle.xvsh_ends.proofs.Strict.{strictly}
use Rattle.xvsh_ends.proofs.processes.strict_ending.Goals as goal

pub returns-in-Ok-print_strict : goal.returns-in-Ok-print_strict
returns-in-Ok-print_strict g c =
    let request = c.args.request.now in
    let input = g.H.Host.input c.args.host.now in
    let file = g.H.Host.file c.args.host.now in
    let strict = c.in-Ok.strict in
    let diag = strict.run.output.err.items in
    let reasons = strict.reasons.items in
    c.in-Ok-print_strict.ensures input file (run_asked true request)
    (ran_strict diag (first_text (map reason_text reasons)) strict.is_settled strict.run.full
    (strictly input file request.source.profile request.source.script.now request.source.files.now request.harts request.turns request.lists strict.run.full strict.is_settled reasons (out_text strict.run.output) diag c.in-Ok.ensures.ran))

pub returns-in-Err-print_strict : goal.returns-in-Err-print_strict
returns-in-Err-print_strict g c =
    due_memory (g.H.Host.input c.args.host.now) (g.H.Host.file c.args.host.now) (json_asked c.args.request.now.is_json (run_asked true c.args.request.now)) c.report_no_memory.result c.report_no_memory.ensures

pub returns-in-Err : goal.returns-in-Err
returns-in-Err g c = c.print_fault.ensures (g.H.Host.input c.args.host.now) (g.H.Host.file c.args.host.now) (run_asked true c.args.request.now) (no_strict c.in-Err.fault c.in-Err.ensures.fault)
