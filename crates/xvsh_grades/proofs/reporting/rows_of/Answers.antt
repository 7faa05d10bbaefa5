use Rattle.std.proofs.Common.{arith}
use Rattle.xvsh_grades.specs.Passed.{IsRowOf}
use Rattle.xvsh_grades.proofs.Joined.{one_more}
use Rattle.xvsh_grades.proofs.reporting.rows_of.Goals as goal

pub loop-mark-preserved : goal.loop-mark-preserved
loop-mark-preserved c =
    one_more IsRowOf c.args.marks.now c.loop-mark.rows.items c.push.new.self.items c.loop-mark.mark-index c.mark-item.result c.row_of.result
    (omega arith) c.mark-item.is c.loop-mark.invariant c.row_of.ensures c.in_ok-push.ensures.items
