use Rattle.std.proofs.Common.{◌≡◌, ap, [], length, arith, rules}
use Rattle.kernel_threads.specs.Seats.{all_events}
use Rattle.kernel_threads.proofs.locked.Locked.audit.Goals as goal

pub returns-clause-events : goal.returns-clause-events
returns-clause-events g c =
    let empty : c.loop-seat.seats.items ≡ [] = search rules in
    let parts : c.loop-seat.all.parts ≡ g.N.Ledger.parts = omega (arith, c.loop-seat.invariant.0, ap length empty, c.requires) in
    omega (arith, c.self.invariant.4, c.audit.ensures.whole parts, c.loop-seat.invariant.1, ap all_events empty)
