-- What is kept of a slot calls as the machine and the reply there do.
use Rattle.order_search.proofs.Looking.{calls_so}
use Rattle.order_search.proofs.parts.read_slot.Goals as goal

pub invariant_of-held : goal.invariant_of-held
invariant_of-held g c = calls_so g.M.Machine.call_of _ _ _ _ _ _ c.next_call-next.result c.deref.ensures.value c.twin.ensures c.to_reply.ensures c.next_call-next.ensures

pub invariant_of-held-2 : goal.invariant_of-held-2
invariant_of-held-2 g c = calls_so g.M.Machine.call_of _ _ _ _ _ _ c.next_call-next.result c.deref.ensures.value c.twin.ensures c.to_reply.ensures c.next_call-next.ensures
