use Rattle.std.proofs.Common.{sym, subst}
use Rattle.std.specs.Prelude.{[], MatchResult}
use Rattle.xvsh_read.specs.declared.fault.Fault.TheVariants.{Memory}
use Rattle.xvsh_read.specs.Status.{fault_told, status_of}
use Rattle.xvsh_ends.specs.Ends.{PrintsAlone, Tells}
use Rattle.xvsh_ends.specs.Printed.{IsPrinted}
use Rattle.xvsh_ends.proofs.Made.{prints_object, prints_report}
use Rattle.xvsh_ends.proofs.printing.report_as.Goals as goal

pub returns-then-is_json : goal.returns-then-is_json
returns-then-is_json c =
    let fault = c.args.fault in
    subst (λ is. IsPrinted is [] (fault_told fault) (status_of fault) c.print_made.result) (sym c.if-is_json.true)
    (prints_object c.fault_result.result (λ found. found.items) [] (fault_told fault) (status_of fault) c.print_made.result
    (subst (λ n. MatchResult c.fault_result.result (λ found. PrintsAlone found.items n c.print_made.result) (λ _. Tells (fault_told Memory) 4 c.print_made.result)) c.status-status.ensures c.print_made.ensures))

pub returns-else-is_json : goal.returns-else-is_json
returns-else-is_json c =
    let fault = c.args.fault in
    subst (λ is. IsPrinted is [] (fault_told fault) (status_of fault) c.report_fault.result) (sym c.if-is_json.false)
    (prints_report (fault_told fault) (status_of fault) c.report_fault.result c.report_fault.ensures)
