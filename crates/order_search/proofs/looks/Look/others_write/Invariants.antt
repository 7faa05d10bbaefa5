use Rattle.std.proofs.Common.{◌≢◌, ◌<◌, ℕ}
use Rattle.kernel_model.specs.KernelState.{fds_at}
use Rattle.order_search.specs.Shown.{HasNoWriteEnd}
use Rattle.order_search.proofs.looks.Look.others_write.Given as goal

abbrev pub invariant-loop-other : goal.invariant-loop-other
invariant-loop-other g l = (q : ℕ) → q < l.other → q ≢ l.pid → HasNoWriteEnd l.self.entries l.pipe (fds_at l.self q)
