use Rattle.std.proofs.Common.{sym, subst}
use Rattle.xvsh_ends.specs.Ends.{IsDue}
use Rattle.xvsh_ends.specs.Requests.{json_asked}
use Rattle.xvsh_ends.proofs.Dues.{due_told}
use Rattle.xvsh_ends.proofs.processes.print_fault.Goals as goal

pub returns-then-is_json : goal.returns-then-is_json
returns-then-is_json c input file what due =
    subst (λ is. IsDue input file (json_asked is what) c.made_valued.result) (sym c.if-is_json.true)
    (c.made_valued.ensures input file what (due_told input file what _ _ c.report_run_fault.result c.report_run_fault.ensures due))

pub returns-else-is_json : goal.returns-else-is_json
returns-else-is_json c input file what due =
    subst (λ is. IsDue input file (json_asked is what) c.report_run_fault-else-is_json.result) (sym c.if-is_json.false) (due_told input file what _ _ c.report_run_fault-else-is_json.result c.report_run_fault-else-is_json.ensures due)
