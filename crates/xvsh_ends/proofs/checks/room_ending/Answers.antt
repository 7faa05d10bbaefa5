use Rattle.std.proofs.Common.{[], ◌++◌, true, false, subst}
use Rattle.check_texts.specs.Findings.{findings_text}
use Rattle.check_texts.specs.Rooms.{room_report}
use Rattle.xvsh_read.specs.Status.{check_status, fault_told, status_of}
use Rattle.xvsh_ends.specs.Ends.{room_told, no_room_told}
use Rattle.xvsh_ends.specs.Printed.{IsPrinted}
use Rattle.xvsh_ends.specs.Requests.{check_asked}
use Rattle.xvsh_ends.proofs.Dues.{fault_is_printed, check_is_printed}
use Rattle.xvsh_ends.proofs.Made.{due_printed}
use Rattle.xvsh_ends.proofs.checks.room_ending.Goals as goal

pub returns-in-Ok : goal.returns-in-Ok
returns-in-Ok g c =
    let request = c.args.request.now in
    let is_fine = c.in-Ok.room.findings.is_harmless in
    let text = findings_text c.in-Ok.room.findings.list.items ++ room_report c.in-Ok.room.found in
    due_printed (g.H.Host.input c.args.host.now) (g.H.Host.file c.args.host.now) (check_asked false true request) request.is_json text [] (check_status is_fine) c.print_as.result
    (subst (λ n. IsPrinted request.is_json text [] n c.print_as.result) c.by-code.ensures (c.print_as.ensures text c.room_made-made.ensures))
    (check_is_printed is_fine) (room_told is_fine c.in-Ok.ensures.ran)

pub returns-in-Err : goal.returns-in-Err
returns-in-Err g c =
    let request = c.args.request.now in
    let fault = c.in-Err.fault in
    due_printed (g.H.Host.input c.args.host.now) (g.H.Host.file c.args.host.now) (check_asked false true request) request.is_json [] (fault_told fault) (status_of fault) c.report_as.result
    c.report_as.ensures (fault_is_printed fault) (no_room_told fault c.in-Err.ensures.fault)
