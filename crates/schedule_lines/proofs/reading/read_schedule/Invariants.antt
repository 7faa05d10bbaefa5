use Rattle.std.proofs.Common.{length}
use Rattle.schedule_lines.proofs.Cutting.{Reading}
use Rattle.schedule_lines.proofs.reading.read_schedule.Given as goal

abbrev pub invariant-loop-rest : goal.invariant-loop-rest
invariant-loop-rest l = Reading l.fn.bytes l.rest l.count l.events.items

abbrev pub decreases-loop-rest : goal.decreases-loop-rest
decreases-loop-rest l = length l.rest
