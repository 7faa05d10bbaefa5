use Rattle.std.proofs.Common.{◌≡◌, ◌<◌, ℕ, Some}
use Rattle.fd_table.specs.Entries.{OpenFile}
use Rattle.fd_table.specs.Descriptors.{entry_of}
use Rattle.kernel_model.specs.KernelState.{file_at}
use Rattle.kernel_model.specs.Closes.{IsClosedAtOnce}
use Rattle.order_search.proofs.looks.Look.are_closed_at_once.Given as goal

abbrev pub invariant-loop-fd : goal.invariant-loop-fd
invariant-loop-fd g l = (fd : ℕ) (f : OpenFile) → fd < l.fd → file_at l.self.entries (entry_of l.places fd) ≡ Some f → IsClosedAtOnce l.self l.pid f.object
