use Rattle.std.proofs.Common.{[], refl}
use Rattle.xvsh_read.specs.Status.{status_code}
use Rattle.xvsh_ends.specs.Ends.{asks_draw, drawn, told_text, undrawn}
use Rattle.xvsh_ends.proofs.Dues.{due_by}
use Rattle.xvsh_ends.proofs.drawing.draw_ending.Goals as goal

pub returns-in-Ok : goal.returns-in-Ok
returns-in-Ok g c =
    due_by (g.H.Host.input c.args.host.now) (g.H.Host.file c.args.host.now) asks_draw c.in-Ok.page.items [] 0 c.prints.result c.prints.ensures.out c.prints.ensures.told c.prints.ensures.status (drawn c.in-Ok.page.items)

pub returns-in-Err : goal.returns-in-Err
returns-in-Err g c =
    let ending = c.report_undrawn.result in
    due_by (g.H.Host.input c.args.host.now) (g.H.Host.file c.args.host.now) asks_draw [] (told_text ending) (status_code ending.status) ending c.report_undrawn.ensures.nothing refl refl (undrawn (told_text ending) (status_code ending.status))
