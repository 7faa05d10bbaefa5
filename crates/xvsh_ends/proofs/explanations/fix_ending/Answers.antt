use Rattle.std.proofs.Common.{[]}
use Rattle.xvsh_ends.specs.Ends.{fixed, no_fix, tells, unfixed, unmended_told}
use Rattle.xvsh_ends.specs.Requests.{fix_asked}
use Rattle.xvsh_ends.proofs.Dues.{due_by, due_told}
use Rattle.xvsh_ends.proofs.explanations.fix_ending.Goals as goal

pub returns-in-Ok-Some : goal.returns-in-Ok-Some
returns-in-Ok-Some g c =
    let is = c.print_made.ensures in
    due_by (g.H.Host.input c.args.host.now) (g.H.Host.file c.args.host.now) (fix_asked c.args.request.now) _ [] 0 c.print_made.result is.out is.reported is.with
    (fixed (rw c.in-Ok-Some.field-0-is at c.in-Ok-Some.ensures.ran))

pub returns-in-Ok-None : goal.returns-in-Ok-None
returns-in-Ok-None g c =
    due_told (g.H.Host.input c.args.host.now) (g.H.Host.file c.args.host.now) (fix_asked c.args.request.now) unmended_told 1 c.report.result (tells c.report.ensures)
    (unfixed (rw c.in-Ok-None.field-0-is at c.in-Ok-None.ensures.ran))

pub returns-in-Err : goal.returns-in-Err
returns-in-Err g c =
    due_told (g.H.Host.input c.args.host.now) (g.H.Host.file c.args.host.now) (fix_asked c.args.request.now) _ _ c.report_fault.result c.report_fault.ensures (no_fix c.in-Err.fault c.in-Err.ensures.fault)
