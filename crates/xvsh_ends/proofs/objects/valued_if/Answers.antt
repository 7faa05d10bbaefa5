use Rattle.std.proofs.Common.{sym, subst}
use Rattle.xvsh_ends.specs.Ends.{IsDue}
use Rattle.xvsh_ends.specs.Requests.{json_asked}
use Rattle.xvsh_ends.proofs.objects.valued_if.Goals as goal

pub returns-then-is_json : goal.returns-then-is_json
returns-then-is_json c input file what due = subst (λ is. IsDue input file (json_asked is what) c.valued.result) (sym c.if-is_json.true) (c.valued.ensures input file what due)

pub returns-else-is_json : goal.returns-else-is_json
returns-else-is_json c input file what due = subst (λ is. IsDue input file (json_asked is what) c.args.ending) (sym c.if-is_json.false) due
