-- Every call ends in one of these ways.
use Rattle.std.proofs.Common.{◌≡◌, ℕ, Bool, true, false, Option, Some, None, refl}
use Rattle.std.proofs.lemmas.Bool.{eqb-false}
use Rattle.std.specs.Prelude.{◌==◌, if◌then◌else◌}
use Rattle.user_calls.specs.declared.calls.Call.{Call}
use Rattle.user_calls.specs.declared.calls.Call.TheVariants.{Fork, Exec, Exit, Wait, MakePipe, Read, Write, OpenFile, Close, Dup}
use Rattle.user_calls.specs.declared.calls.Reply.TheVariants.{Refused}
use Rattle.fd_table.specs.declared.descriptors.TheConstants.{DESCRIPTORS}
use Rattle.proc_table.specs.Calls.{lowest_free as lowest_free_slot, zombie_child, some_child, wait_by as waited_by}
use Rattle.kernel_model.specs.declared.events.Full.TheVariants.{Procs}
use Rattle.kernel_model.specs.KernelState.{KernelState}
use Rattle.kernel_model.specs.Replies.{answered}
use Rattle.kernel_model.specs.Descriptors.{closed_below}
use Rattle.kernel_model.specs.Processes.{fork_into, ended, wait_by, exec}
use Rattle.kernel_model.specs.Events.{acted}
use Rattle.law_kernel.specs.Outcome.{Outcome, refused, lacks, forks, runs, exits, reaps, waits}
use Rattle.law_kernel.proofs.outcomes.ReadEnds.{read_ends}
use Rattle.law_kernel.proofs.outcomes.WriteEnds.{write_ends}
use Rattle.law_kernel.proofs.outcomes.OpenEnds.{open_ends, close_ends, dup_ends, make_pipe_ends}

module _ {S : Type 0} (k : KernelState S) (pid : ℕ) (after : S) where
  fork_ends : (place : Option ℕ) → lowest_free_slot k.table ≡ place → Outcome k pid after Fork (fork_into k pid after place)
  fork_ends None free = lacks Procs refl
  fork_ends (Some child) free = forks child refl free refl

  exec_ends : (found : Bool) → Outcome k pid after (Exec found) (exec k pid after found)
  exec_ends true = runs refl refl
  exec_ends false = refused refl

  exit_ends : (init : Bool) → (pid == 0) ≡ init → Outcome k pid after Exit (if init then answered k pid after Refused else ended pid (closed_below k pid DESCRIPTORS))
  exit_ends true test = refused refl
  exit_ends false test = exits refl (eqb-false pid 0 test) refl

  wait_ends : (zombie any : Option ℕ) → zombie_child k.table pid ≡ zombie → some_child k.table pid ≡ any → Outcome k pid after Wait (wait_by k pid after (waited_by zombie any))
  wait_ends (Some child) any dead some = reaps child refl dead refl
  wait_ends None (Some child) dead some = waits child refl dead some refl
  wait_ends None None dead some = refused refl

  pub every_call_ends : (call : Call) (memory : Bool) → Outcome k pid after call (acted k pid after call memory)
  every_call_ends Fork memory = fork_ends (lowest_free_slot k.table) refl
  every_call_ends (Exec found) memory = exec_ends found
  every_call_ends Exit memory = exit_ends (pid == 0) refl
  every_call_ends Wait memory = wait_ends (zombie_child k.table pid) (some_child k.table pid) refl refl
  every_call_ends MakePipe memory = make_pipe_ends k pid after MakePipe memory refl
  every_call_ends (Read fd n) memory = read_ends k pid after (Read fd n) fd n refl
  every_call_ends (Write fd b) memory = write_ends k pid after (Write fd b) fd b memory refl
  every_call_ends (OpenFile name mode) memory = open_ends k pid after (OpenFile name mode) name mode memory refl
  every_call_ends (Close fd) memory = close_ends k pid after (Close fd) fd refl
  every_call_ends (Dup fd) memory = dup_ends k pid after (Dup fd) fd refl
