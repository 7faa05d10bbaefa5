-- The seats that were given back have their parts and their events in one share.
use Rattle.std.proofs.Common.{◌≡◌, ◌+◌, vec_len}
use Rattle.kernel_threads.specs.Seats.{all_events}
use Rattle.kernel_threads.proofs.locked.Locked.audit.Given as goal

abbrev pub invariant-loop-seat : goal.invariant-loop-seat
invariant-loop-seat g l = (l.all.parts + vec_len l.seats ≡ vec_len l.fn.seats) × (l.all.amount + all_events l.seats.items ≡ all_events l.fn.seats.items)

abbrev pub decreases-loop-seat : goal.decreases-loop-seat
decreases-loop-seat g l = vec_len l.seats
