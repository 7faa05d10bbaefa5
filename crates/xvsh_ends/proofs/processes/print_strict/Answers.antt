use Rattle.std.proofs.Common.{sym, subst}
use Rattle.xvsh_ends.specs.Ends.{IsDue}
use Rattle.xvsh_ends.specs.Requests.{json_asked}
use Rattle.xvsh_ends.proofs.Dues.{due_by}
use Rattle.xvsh_ends.proofs.processes.print_strict.Goals as goal

pub returns-in_ok-ending : goal.returns-in_ok-ending
returns-in_ok-ending c input file what due =
    let is = c.in_ok-ending.ensures in
    subst (λ is. IsDue input file (json_asked is what) c.made_valued.result) (sym c.if-is_json.true)
    (c.made_valued.ensures input file what (due_by input file what _ _ _ c.in_ok-ending.ending is.out is.told is.status due))
