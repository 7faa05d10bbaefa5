-- Kernels to which turns lead from a boot are such as the laws ask for.
use Rattle.std.proofs.Common.{◌≡◌, ℕ, ◌<◌, None, refl}
use Rattle.user_calls.specs.declared.calls.Call.{Call}
use Rattle.user_calls.specs.declared.calls.Reply.{Reply}
use Rattle.kernel_model.specs.KernelState.{KernelState}
use Rattle.kernel_model.specs.Boot.{boot_kernel}
use Rattle.kernel_model.specs.Pipes.{pipe_of}
use Rattle.kernel_model.proofs.Lasting.{run_later}
use Rattle.law_kernel.specs.Ends.{EndsAgree}
use Rattle.law_kernel.proofs.kernel.EndsRuns.{every_run_in_step}
use Rattle.kernel_model.specs.Alike.{IsStill}
use Rattle.kernel_model.specs.Begun.{IsBegun}
use Rattle.kernel_model.specs.Turns.{quiet_turns, turn_events, turn_notes}
use Rattle.law_turns.proofs.private_turns.Begun.{begun_still}

module _ {S : Type 0} (call : S → Reply → Call) (next : S → Reply → S) (k : KernelState S) (b : IsBegun call next k) where
  pub still : IsStill k
  still = begun_still call next k b

  pub ends : EndsAgree k.entries k.pipes
  ends = every_run_in_step call next b.init b.shell b.input b.files (turn_events (quiet_turns b.pids)) (turn_notes (quiet_turns b.pids)) k b.turns

  pub fresh : (n : ℕ) → k.events < n → pipe_of k.pipes n ≡ None
  fresh n later =
      (run_later call next (boot_kernel b.init b.shell b.input b.files) k (turn_events (quiet_turns b.pids)) (turn_notes (quiet_turns b.pids)) b.turns).names n later refl
