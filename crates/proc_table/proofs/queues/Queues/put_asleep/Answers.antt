-- The channel has a list, and the slot stands at its end.
use Rattle.std.proofs.Common.{sym, ap, subst, ◌∙◌}
use Rattle.slot_lists.specs.Links.{has, slots_of}
use Rattle.proc_table.specs.Queues.{AreQueued, Queues}
use Rattle.proc_table.proofs.Enough.{never_full}
use Rattle.proc_table.proofs.Queueing.{lies_down}
use Rattle.proc_table.proofs.queues.Queues.put_asleep.Goals as goal

pub returns-in-Some : goal.returns-in-Some
returns-in-Some c = λ heads head queued free sleeps.
    let was = subst (λ (q : Queues). AreQueued heads q) (sym c.self.view_is) queued in
    lies_down heads _ was c.args.channel.now c.in-Some.list c.claim.new.self c.in-Some.ensures.claimed
    c.args.slot c.requires.within head sleeps c.push.new.self (λ list lt. ap (λ (q : Queues). has (slots_of q.lists list) c.args.slot) c.self.view_is ∙ c.requires.out list lt) c.push.ensures.here c.push.ensures.others

pub returns-in_default : goal.returns-in_default
returns-in_default c = λ heads head queued free sleeps.
    let was = subst (λ (q : Queues). AreQueued heads q) (sym c.self.view_is) queued in
    absurd (never_full heads _ was c.in_default.ensures.full c.args.slot c.requires.within free)
