-- What a process that sleeps asks for: it makes the same call again once it runs.
use Rattle.std.specs.Prelude.{◌≡◌, ℕ, ◌<◌, length, Some}
use Rattle.user_calls.specs.declared.calls.Call.{Call}
use Rattle.user_calls.specs.declared.calls.Call.TheVariants.{Wait}
use Rattle.user_calls.specs.declared.calls.Reply.{Reply}
use Rattle.fd_table.specs.declared.names.Object.TheVariants.{PipeRead, PipeWrite}
use Rattle.mem_files.specs.Name.{Bytes}
use Rattle.proc_table.specs.declared.states.Channel.{Channel}
use Rattle.proc_table.specs.declared.states.Channel.TheVariants.{PipeBytes, PipeRoom, Children}
use Rattle.proc_table.specs.declared.states.Status.TheVariants.{Asleep}
use Rattle.proc_table.specs.Slots.{Process, at}
use Rattle.kernel_model.specs.KernelState.{KernelState}
use Rattle.law_kernel.specs.Outcome.{IsRead, IsWrite}

-- a call of q, of which so many bytes were put, may sleep on the channel: on a pipe's bytes a read from that pipe, on a pipe's
-- room a write to that pipe of which some bytes are left, on children a wait for its own
abbrev pub MaySleep : {S : Type 0} → KernelState S → ℕ → Call → ℕ → Channel → Type 0
MaySleep k q call put (PipeBytes id) = IsRead k q call (PipeRead id)
MaySleep k q call put (PipeRoom id) = (b : Bytes) × IsWrite k q call (PipeWrite id) b × (put < length b)
MaySleep k q call put (Children pid) = (pid ≡ q) × (call ≡ Wait)

-- the call of each process that sleeps may sleep there
abbrev pub AllAsk : {S : Type 0} → (S → Reply → Call) → KernelState S → Type 0
AllAsk call k = (q : ℕ) (p : Process _) (c : Channel) → at k.table q ≡ Some p → p.status ≡ Asleep c → MaySleep k q (call p.machine p.reply) p.put c
