-- There is room for the pipe and for its entry before either is put there.
use Rattle.kernel_calls.proofs.Indexing.{indexed_made}
use Rattle.kernel_calls.proofs.Shown.{shown_made}
use Rattle.kernel_calls.proofs.pipes.Pipes.add.Goals as goal

pub invariant_of-self-2 : goal.invariant_of-self-2
invariant_of-self-2 g c =
    indexed_made c.self.inside.index.items c.reserve.new.self.items c.push_reserved.new.self.items c.self.inside.live c.reserve-2.new.self c.insert_reserved-key.new.self (record { name = c.args.name; key = c.insert_reserved-key.result }) c.in_ok-pipe.pipe
    c.self.invariant c.reserve.ensures.items c.push_reserved.ensures.items c.reserve-2.ensures.rest_kept c.insert_reserved-key.ensures.was_vacant c.insert_reserved-key.ensures.updates c.insert_reserved-key.ensures.len

pub returns-clause-ok : goal.returns-clause-ok
returns-clause-ok g c =
    rw (← c.self.view_is) (shown_made c.self.inside.index.items c.reserve.new.self.items c.push_reserved.new.self.items c.self.inside.live c.reserve-2.new.self c.insert_reserved-key.new.self (record { name = c.args.name; key = c.insert_reserved-key.result }) c.in_ok-pipe.pipe
    c.self.invariant c.reserve.ensures.items c.push_reserved.ensures.items c.reserve-2.ensures.rest_kept c.insert_reserved-key.ensures.was_vacant c.insert_reserved-key.ensures.updates c.in_ok-pipe.ensures)
