-- How much a kernel holds at most (`NPROC`, `NFILE` and `NOFILE` of `kernel/param.h`, `PIPESIZE` of `kernel/pipe.c`).
use Rattle.std.specs.Prelude.{◌≡◌, ℕ, ◌≤◌, length, Some}
use Rattle.byte_pipe.specs.Limits.{pipe_size}
use Rattle.byte_pipe.specs.PipeState.{PipeState}
use Rattle.fd_table.specs.declared.descriptors.TheConstants.{DESCRIPTORS}
use Rattle.fd_table.specs.declared.entries.TheConstants.{ENTRIES}
use Rattle.proc_table.specs.declared.pid.TheConstants.{PROCS}
use Rattle.kernel_model.specs.KernelState.{KernelState, fds_at}
use Rattle.kernel_model.specs.Pipes.{pipe_of}

-- there are 64 places for processes, 100 for open files, and 16 for the descriptors of each process; and no pipe holds more than 512 bytes
pub record IsWithin {S : Type 0} (k : KernelState S) : Type 0 where
  pub processes : length k.table ≡ PROCS
  pub entries : length k.entries ≡ ENTRIES
  pub descriptors : (pid : ℕ) → length (fds_at k pid) ≡ DESCRIPTORS
  pub bytes : (id : ℕ) (p : PipeState) → pipe_of k.pipes id ≡ Some p → length p.bytes ≤ pipe_size
