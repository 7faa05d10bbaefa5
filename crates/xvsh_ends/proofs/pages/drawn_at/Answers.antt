use Rattle.std.proofs.Common.{ap}
use Rattle.xvsh_read.specs.Status.{status_code}
use Rattle.xvsh_read.specs.Writing.{out_text}
use Rattle.xvsh_ends.specs.Ends.{asks_traced, traced, untraced, beside_trace, told_text, untraced_told}
use Rattle.xvsh_ends.proofs.Dues.{due_by, due_told}
use Rattle.xvsh_ends.proofs.pages.drawn_at.Goals as goal

pub returns-in-Ok : goal.returns-in-Ok
returns-in-Ok g c input file what due =
    due_by input file (asks_traced what c.args.path.now) (beside_trace c.args.path.now (out_text c.args.ending.output)) (told_text c.args.ending) (status_code c.args.ending.status) c.beside.result c.beside.ensures.out c.beside.ensures.told (ap status_code c.beside.ensures.status) (traced due)

pub returns-in-Err : goal.returns-in-Err
returns-in-Err g c input file what due =
    due_told input file (asks_traced what c.args.path.now) (untraced_told c.args.path.now) 1 c.report_untraced.result c.report_untraced.ensures untraced
