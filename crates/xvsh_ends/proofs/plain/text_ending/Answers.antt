use Rattle.std.proofs.Common.{refl}
use Rattle.xvsh_read.specs.Writing.{out_text}
use Rattle.xvsh_ends.specs.Requests.{diagnosed_asked}
use Rattle.xvsh_ends.proofs.Dues.{due_by, due_memory}
use Rattle.xvsh_ends.proofs.Meant.{text_due}
use Rattle.xvsh_ends.proofs.plain.text_ending.Goals as goal

pub returns-in-Ok : goal.returns-in-Ok
returns-in-Ok c input file did =
    let request = c.args.request.now in
    let ending = c.in-Ok.ending in
    let is = c.in-Ok.ensures in
    due_by input file (diagnosed_asked request.finds_diagnostics request) (out_text ending.output) _ _ ending refl is.report is.status (text_due input file request c.args.run did (out_text ending.output) is.out)

pub returns-in-Err : goal.returns-in-Err
returns-in-Err c input file did =
    let request = c.args.request.now in
    due_memory input file (diagnosed_asked request.finds_diagnostics request) c.report_no_memory.result c.report_no_memory.ensures
