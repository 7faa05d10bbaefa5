use Rattle.std.proofs.Common.{◌≡◌, length, ap, arith, rules}
use Rattle.step_session.specs.Sessions.{AreTurns}
use Rattle.step_session.proofs.Adding.{long}
use Rattle.step_session.proofs.session.Session.turns.Goals as goal

pub returns : goal.returns
returns g c =
    let is : c.schedule.result.now ≡ c.args.self.now.schedule = search rules in
    let turns : AreTurns c.args.self.now.schedule = search rules in
    omega (arith, ap length is, long c.args.self.now.schedule turns)
