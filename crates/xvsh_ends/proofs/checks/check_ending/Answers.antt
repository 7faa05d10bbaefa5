use Rattle.std.proofs.Common.{sym, subst}
use Rattle.xvsh_ends.specs.Ends.{IsDue}
use Rattle.xvsh_ends.specs.Requests.{check_asked, json_asked}
use Rattle.xvsh_ends.proofs.checks.check_ending.Goals as goal

pub returns-then-request : goal.returns-then-request
returns-then-request g c =
    let request = c.args.request.now in
    subst (λ turns. IsDue (g.H.Host.input c.args.host.now) (g.H.Host.file c.args.host.now) (json_asked request.is_json (check_asked turns request.tells_room request)) c.turns_ending.result) (sym c.if-request.true) (c.turns_ending.ensures request.tells_room)
