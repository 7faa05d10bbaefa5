use Rattle.std.proofs.Common.{[], false, subst}
use Rattle.check_texts.specs.Findings.{findings_text}
use Rattle.xvsh_read.specs.Status.{check_status, fault_told, status_of}
use Rattle.xvsh_ends.specs.Ends.{checked, no_check}
use Rattle.xvsh_ends.specs.Printed.{IsPrinted}
use Rattle.xvsh_ends.specs.Requests.{check_asked}
use Rattle.xvsh_ends.proofs.Dues.{fault_is_printed, check_is_printed}
use Rattle.xvsh_ends.proofs.Made.{due_printed}
use Rattle.xvsh_ends.proofs.checks.lines_ending.Goals as goal

pub returns-in-Ok : goal.returns-in-Ok
returns-in-Ok g c =
    let request = c.args.request.now in
    let is_fine = c.in-Ok.found.is_harmless in
    let text = findings_text c.in-Ok.found.list.items in
    due_printed (g.H.Host.input c.args.host.now) (g.H.Host.file c.args.host.now) (check_asked false false request) request.is_json text [] (check_status is_fine) c.print_as.result
    (subst (λ n. IsPrinted request.is_json text [] n c.print_as.result) c.by-code.ensures (c.print_as.ensures text c.lines_made-made.ensures))
    (check_is_printed is_fine) (checked is_fine c.in-Ok.ensures.ran)

pub returns-in-Err : goal.returns-in-Err
returns-in-Err g c =
    let request = c.args.request.now in
    let fault = c.in-Err.fault in
    due_printed (g.H.Host.input c.args.host.now) (g.H.Host.file c.args.host.now) (check_asked false false request) request.is_json [] (fault_told fault) (status_of fault) c.report_as.result
    c.report_as.ensures (fault_is_printed fault) (no_check fault c.in-Err.ensures.fault)
