use Rattle.std.proofs.Common.{sym, subst}
use Rattle.xvsh_ends.specs.Ends.{IsDue}
use Rattle.xvsh_ends.specs.Requests.{json_asked}
use Rattle.xvsh_ends.proofs.Dues.{due_by}
use Rattle.xvsh_ends.proofs.processes.print_run.Goals as goal

pub returns-then-is_json : goal.returns-then-is_json
returns-then-is_json c input file what due =
    let is = c.ran.ensures in
    subst (λ is. IsDue input file (json_asked is what) c.made_valued.result) (sym c.if-is_json.true)
    (c.made_valued.ensures input file what (due_by input file what _ _ _ c.ran.result is.out is.told is.status due))

pub returns-else-is_json : goal.returns-else-is_json
returns-else-is_json c input file what due =
    let is = c.ran-else-is_json.ensures in
    subst (λ is. IsDue input file (json_asked is what) c.ran-else-is_json.result) (sym c.if-is_json.false) (due_by input file what _ _ _ c.ran-else-is_json.result is.out is.told is.status due)
