use Rattle.std.proofs.Common.{sym, subst}
use Rattle.xvsh_ends.specs.Ends.{IsDue}
use Rattle.xvsh_ends.specs.Requests.{plain_printed_asked}
use Rattle.xvsh_ends.proofs.Meant.{fault_due, object_due}
use Rattle.xvsh_ends.proofs.plain.plain_ending.Goals as goal

pub returns-in-Err : goal.returns-in-Err
returns-in-Err g c = fault_due (g.H.Host.input c.args.host.now) (g.H.Host.file c.args.host.now) c.args.request.now c.in-Err.fault c.in-Err.ensures.fault c.args.request.now.is_json c.report_as.result c.report_as.ensures

pub returns-then-request : goal.returns-then-request
returns-then-request g c =
    let request = c.args.request.now in
    let input = g.H.Host.input c.args.host.now in
    let file = g.H.Host.file c.args.host.now in
    subst (λ is. IsDue input file (plain_printed_asked is request) c.object_of.result) (sym c.if-request.true) (object_due input file request c.in-Ok.run' c.in-Ok.ensures.ran c.object_of.result c.object_of.ensures)

pub returns-else-request : goal.returns-else-request
returns-else-request g c =
    let request = c.args.request.now in
    let input = g.H.Host.input c.args.host.now in
    let file = g.H.Host.file c.args.host.now in
    subst (λ is. IsDue input file (plain_printed_asked is request) c.text_ending.result) (sym c.if-request.false) (c.text_ending.ensures input file c.in-Ok.ensures.ran)
