use Rattle.std.proofs.Common.{◌≡◌, ◌≢◌, ◌<◌, ℕ, Some}
use Rattle.fd_table.specs.declared.names.Object.TheVariants.{PipeWrite}
use Rattle.fd_table.specs.Entries.{OpenFile}
use Rattle.fd_table.specs.Descriptors.{entry_of}
use Rattle.kernel_model.specs.KernelState.{file_at}
use Rattle.order_search.proofs.kept.Held.writes_to.Given as goal

abbrev pub invariant-loop-fd : goal.invariant-loop-fd
invariant-loop-fd g l = (fd : ℕ) (f : OpenFile) → fd < l.fd → file_at l.entries (entry_of l.self.fds fd) ≡ Some f → f.object ≢ PipeWrite l.pipe
