use Rattle.std.proofs.Common.{ap}
use Rattle.xvsh_read.specs.Status.{status_code}
use Rattle.xvsh_ends.specs.Ends.{asks_json, valued}
use Rattle.xvsh_ends.proofs.Dues.{due_by, due_memory}
use Rattle.xvsh_ends.proofs.objects.objected.Goals as goal

pub returns-in-Ok : goal.returns-in-Ok
returns-in-Ok c input file what is due =
    due_by input file (asks_json what) _ _ _ c.prints.result c.prints.ensures.out c.prints.ensures.told (ap status_code c.prints.ensures.status) (valued c.in-Ok.object is due)

pub returns-in-Err : goal.returns-in-Err
returns-in-Err c input file what is due =
    due_memory input file (asks_json what) c.report_no_memory.result c.report_no_memory.ensures
