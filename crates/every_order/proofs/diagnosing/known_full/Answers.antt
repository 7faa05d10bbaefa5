use Rattle.every_order.proofs.Knowing.{full}
use Rattle.every_order.proofs.diagnosing.known_full.Goals as goal

pub returns-then-is_awake : goal.returns-then-is_awake
returns-then-is_awake c start from =
    full start c.args.found.now from c.if-not-found.false (c.is_awake.ensures.0 c.if-is_awake.true) c.requires
