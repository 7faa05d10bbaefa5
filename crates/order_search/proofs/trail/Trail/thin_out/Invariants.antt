use Rattle.std.proofs.Common.{◌-◌, length}
use Rattle.order_search.proofs.trail.Trail.thin_out.Given as goal

abbrev pub decreases-loop-self : goal.decreases-loop-self
decreases-loop-self g l = length l.self.stops.items - l.before
