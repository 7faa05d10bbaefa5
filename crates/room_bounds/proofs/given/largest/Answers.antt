use Rattle.std.proofs.Common.{◌≤◌, length, arith}
use Rattle.room_bounds.proofs.Largest.{at_first, at_last}
use Rattle.room_bounds.proofs.given.largest.Goals as goal

pub loop-i-init : goal.loop-i-init
loop-i-init g c = at_first c.args.given.now c.count-i-end.ensures.files

pub returns : goal.returns
returns g c =
    let all : length c.args.given.now ≤ c.loop-i.i = omega arith in
    at_last c.args.given.now c.loop-i.i c.loop-i.most all c.loop-i.invariant
