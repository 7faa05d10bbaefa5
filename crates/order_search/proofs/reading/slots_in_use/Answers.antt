use Rattle.std.proofs.Common.{arith}
use Rattle.order_search.proofs.Filling.{past_end}
use Rattle.order_search.proofs.reading.slots_in_use.Goals as goal

pub loop-count-init : goal.loop-count-init
loop-count-init g c = (omega arith, (λ pid past. past_end c.args.state.now.table pid (omega (arith, c.requires.slots, past))))
