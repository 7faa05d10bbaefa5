-- Each call keeps a kernel sound.
use Rattle.std.proofs.Common.{ℕ, Bool, refl}
use Rattle.std.specs.Prelude.{◌==◌, min}
use Rattle.fd_table.specs.Descriptors.{entry_of}
use Rattle.proc_table.specs.Calls.{lowest_free as lowest_free_slot, wait_answer}
use Rattle.kernel_model.specs.KernelState.{KernelState, fds_at}
use Rattle.kernel_model.specs.Sound.{IsMid, Keeps}
use Rattle.mem_files.specs.Listing.{AreFiles}
use Rattle.user_calls.specs.Limits.{block_size}
use Rattle.user_calls.specs.declared.calls.Call.{Call}
use Rattle.user_calls.specs.declared.calls.Call.TheVariants.{Fork, Exec, Exit, Wait, MakePipe, Read, Write, OpenFile, Close, Dup}
use Rattle.kernel_model.specs.Events.{acted}
use Rattle.kernel_model.proofs.Keeps.{ready_keeps}
use Rattle.kernel_model.proofs.Closing.{close_after, dup_after}
use Rattle.kernel_model.proofs.Forking.{fork_into_after}
use Rattle.kernel_model.proofs.Exiting.{exit_after}
use Rattle.kernel_model.proofs.Waiting.{wait_after}
use Rattle.kernel_model.proofs.Opening.{open_after}
use Rattle.kernel_model.proofs.Piping.{make_pipe_after}
use Rattle.kernel_model.proofs.Reading.{read_held_after}
use Rattle.kernel_model.proofs.Writing.{write_held_after}

module _ {S : Type 0} (n pid : ℕ) where
  -- the kernel in the middle of a call of pid, and after it
  abbrev Mid : KernelState S → Type 0
  Mid k = IsMid n k.table k.entries pid

  abbrev After : KernelState S → Type 0
  After k = Keeps n k.table k.entries

  pub acted_after : (k : KernelState S) (after : S) (call : Call) (refused : Bool) → AreFiles k.files → Mid k → After (acted k pid after call refused)
  acted_after k after Fork refused are m = fork_into_after n pid k after (lowest_free_slot k.table) refl m
  acted_after k after (Exec found) refused are m = ready_keeps n k.table k.entries pid after _ m
  acted_after k after Exit refused are m = exit_after n pid k after (pid == 0) m
  acted_after k after Wait refused are m = wait_after n pid k after (wait_answer k.table pid) m
  acted_after k after MakePipe refused are m = make_pipe_after n pid k after m refused
  acted_after k after (Read fd want) refused are m = read_held_after n pid k after (min want block_size) (entry_of (fds_at k pid) fd) are m
  acted_after k after (Write fd b) refused are m = write_held_after n pid k after b refused (entry_of (fds_at k pid) fd) m
  acted_after k after (OpenFile name mode) refused are m = open_after n pid k after name mode refused m
  acted_after k after (Close fd) refused are m = close_after n pid k after fd m
  acted_after k after (Dup fd) refused are m = dup_after n pid k after fd m
