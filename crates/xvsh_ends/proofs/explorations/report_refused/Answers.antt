use Rattle.std.proofs.Common.{sym, subst}
use Rattle.xvsh_ends.specs.Ends.{IsDue}
use Rattle.xvsh_ends.specs.Requests.{explore_plainly_asked, explore_told_asked, json_asked}
use Rattle.xvsh_ends.proofs.Dues.{due_witnessed}
use Rattle.xvsh_ends.proofs.explorations.report_refused.Goals as goal

pub returns-then-request : goal.returns-then-request
returns-then-request c input file why =
    let request = c.args.request.now in
    subst (λ is. IsDue input file (json_asked is (explore_told_asked request)) c.made_valued.result) (sym c.if-request.true)
    (c.made_valued.ensures input file (explore_told_asked request) (due_witnessed input file (explore_plainly_asked request) request.witness _ _ _ (c.report_exploring.ensures input file why)))

pub returns-else-request : goal.returns-else-request
returns-else-request c input file why =
    let request = c.args.request.now in
    subst (λ is. IsDue input file (json_asked is (explore_told_asked request)) c.report_exploring-else-request.result) (sym c.if-request.false)
    (due_witnessed input file (explore_plainly_asked request) request.witness _ _ _ (c.report_exploring-else-request.ensures input file why))
