-- The slot leaves its list and goes into another, or stays.
use Rattle.std.proofs.Common.{List, Option, None, subst, arith, get_or-set_same, set-set}
use Rattle.std.proofs.Math.ListN.{set}
use Rattle.proc_table.specs.declared.heads.Head.{Head}
use Rattle.proc_table.specs.Queues.{AreQueued}
use Rattle.proc_table.proofs.Queueing.{remembered, stays}
use Rattle.proc_table.proofs.queues.Queues.put.Goals as goal

pub returns-then-not-waits_on : goal.returns-then-not-waits_on
returns-then-not-waits_on c = λ heads queued was.
    let slot = c.args.slot in
    let free = get_or-set_same heads slot None None (omega (arith, queued.standing.all, c.requires.within)) in
    let out = remembered (set heads slot None) c.take_out.new.self c.remember.new.self (c.take_out.ensures.after heads queued) slot free c.remember.ensures.lists c.remember.ensures.channels c.remember.ensures.others in
    subst (λ (hs : List (Option Head)). AreQueued hs c.put_in.new.self) (set-set heads slot None c.args.head.now) (c.put_in.ensures (set heads slot None) out free)

pub returns-else-not-waits_on : goal.returns-else-not-waits_on
returns-else-not-waits_on c = λ heads queued was.
    stays heads c.args.self.now queued c.args.slot c.requires.within c.args.was.now c.args.head.now was (c.waits_on.ensures c.if-not-waits_on.false)
