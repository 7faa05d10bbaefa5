-- The calls fork, exec, exit and wait (`kfork`, `kexit` and `kwait` of `kernel/proc.c`).
use Rattle.std.specs.Prelude.{ℕ, Bool, ◌==◌, if◌then◌else◌, Option, Some, None}
use Rattle.user_calls.specs.declared.calls.Reply.TheVariants.{Done, Refused}
use Rattle.fd_table.specs.Descriptors.{all_held}
use Rattle.fd_table.specs.declared.descriptors.TheConstants.{DESCRIPTORS}
use Rattle.proc_table.specs.declared.states.Channel.TheVariants.{Children}
use Rattle.proc_table.specs.declared.table.Waited.{Waited}
use Rattle.proc_table.specs.declared.table.Waited.TheVariants.{Reaped, NoChildren, MustSleep}
use Rattle.proc_table.specs.Calls.{lowest_free, forked, exited, reaped, wait_answer}
use Rattle.kernel_model.specs.declared.events.Full.TheVariants.{Procs}
use Rattle.kernel_model.specs.KernelState.{KernelState, fds_at}
use Rattle.kernel_model.specs.Replies.{answered, refused_for, sleeps}
use Rattle.kernel_model.specs.Descriptors.{closed_below}

-- a fork of pid into this slot, if one is free: the child goes on from the same state, and shares the entries
abbrev pub fork_into : {S : Type 0} → KernelState S → ℕ → S → Option ℕ → KernelState S
fork_into k pid after None = refused_for k pid after Procs
fork_into k pid after (Some child) =
    answered (record k { table = forked k.table child pid after (fds_at k pid); entries = all_held k.entries (fds_at k pid) }) pid after Done

-- fork
abbrev pub fork : {S : Type 0} → KernelState S → ℕ → S → KernelState S
fork k pid after = fork_into k pid after (lowest_free k.table)

-- exec of a program that was found, or not
abbrev pub exec : {S : Type 0} → KernelState S → ℕ → S → Bool → KernelState S
exec k pid after found = answered k pid after (if found then Done else Refused)

-- the kernel after pid, whose descriptors are closed, became a zombie
abbrev pub ended : {S : Type 0} → ℕ → KernelState S → KernelState S
ended pid k = record k { table = exited k.table pid }

-- exit: init is refused (own: xv6 panics); any other process first closes its descriptors, the lowest first
abbrev pub exit : {S : Type 0} → KernelState S → ℕ → S → KernelState S
exit k pid after = if pid == 0 then answered k pid after Refused else ended pid (closed_below k pid DESCRIPTORS)

-- a wait of pid, by its result
abbrev pub wait_by : {S : Type 0} → KernelState S → ℕ → S → Waited → KernelState S
wait_by k pid after (Reaped child) = answered (record k { table = reaped k.table pid }) pid after Done
wait_by k pid after NoChildren = answered k pid after Refused
wait_by k pid after MustSleep = sleeps k pid (Children pid) 0

-- wait
abbrev pub wait : {S : Type 0} → KernelState S → ℕ → S → KernelState S
wait k pid after = wait_by k pid after (wait_answer k.table pid)
