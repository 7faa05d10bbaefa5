-- So many seats were taken, each with its part.
use Rattle.std.proofs.Common.{◌≡◌, ◌+◌, vec_len}
use Rattle.kernel_threads.specs.Seats.{all_events, first_seats}
use Rattle.kernel_threads.proofs.seats.Seat.take_all.Given as goal

abbrev pub invariant-loop-hart : goal.invariant-loop-hart
invariant-loop-hart g l = (l.all.parts + l.hart ≡ l.harts) × (l.all.amount ≡ 0) × (vec_len l.seats ≡ l.hart) × (all_events l.seats.items ≡ 0) × (l.seats.items ≡ first_seats l.hart)
