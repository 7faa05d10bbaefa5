use Rattle.std.proofs.Common.{[], true, subst}
use Rattle.xvsh_read.specs.Status.{check_status, fault_told, status_of}
use Rattle.check_texts.specs.Explanations.{whys_text}
use Rattle.xvsh_ends.specs.Ends.{whys_told, no_whys_told}
use Rattle.xvsh_ends.specs.Printed.{IsPrinted}
use Rattle.xvsh_ends.specs.Requests.{explain_asked}
use Rattle.xvsh_ends.proofs.Dues.{fault_is_printed, check_is_printed}
use Rattle.xvsh_ends.proofs.Made.{due_printed}
use Rattle.xvsh_ends.proofs.explanations.whys_ending.Goals as goal

pub returns-in-Ok : goal.returns-in-Ok
returns-in-Ok g c =
    let request = c.args.request.now in
    let noted = c.in-Ok.noted in
    let is_fine = noted.is_fine in
    let text = whys_text noted in
    due_printed (g.H.Host.input c.args.host.now) (g.H.Host.file c.args.host.now) (explain_asked true request) request.is_json text [] (check_status is_fine) c.print_as.result
    (subst (λ n. IsPrinted request.is_json text [] n c.print_as.result) c.by-code.ensures (c.print_as.ensures text c.whys_made-made.ensures))
    (check_is_printed is_fine) (whys_told noted c.in-Ok.ensures.ran)

pub returns-in-Err : goal.returns-in-Err
returns-in-Err g c =
    let request = c.args.request.now in
    let fault = c.in-Err.fault in
    due_printed (g.H.Host.input c.args.host.now) (g.H.Host.file c.args.host.now) (explain_asked true request) request.is_json [] (fault_told fault) (status_of fault) c.report_as.result
    c.report_as.ensures (fault_is_printed fault) (no_whys_told fault c.in-Err.ensures.fault)
