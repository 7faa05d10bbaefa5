-- So many events are the same.
use Rattle.std.proofs.Common.{◌≡◌, take}
use Rattle.kernel_events.proofs.report.are_same.Given as goal

abbrev pub invariant-loop-i : goal.invariant-loop-i
invariant-loop-i l = take l.i l.left ≡ take l.i l.right
