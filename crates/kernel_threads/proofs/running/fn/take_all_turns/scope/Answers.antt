use denote.Param.Send.{sendable}
use Rattle.std.proofs.Crossing.{crosses}
use Rattle.std.proofs.sync.atomic.AtomicBool.TheSendSync as FlagSends
use Rattle.kernel_threads.proofs.Sends.{shared_sync}
use Rattle.kernel_threads.proofs.seats.Seat.TheSendSync as SeatSends
use Rattle.kernel_threads.proofs.running.fn.take_all_turns.scope.Goals as goal

pub spawn-requires-send-F : goal.spawn-requires-send-F
spawn-requires-send-F g c κs within = search (crosses, sendable, shared_sync, SeatSends.the_send, FlagSends.the_sync, c.requires) depth 60 fits 20000
