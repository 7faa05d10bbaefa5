-- The two ends of a pipe: what closing one does, and what another process may hold for its calls not to be changed by it.
use Rattle.std.proofs.Common.{◌≡◌, ◌≢◌, ℕ, Option, Some, None}
use Rattle.byte_pipe.specs.PipeState.{PipeState}
use Rattle.fd_table.specs.declared.names.Object.{Object}
use Rattle.fd_table.specs.declared.names.Object.TheVariants.{PipeRead, PipeWrite}
use Rattle.fd_table.specs.Entries.{OpenFile as Opened}
use Rattle.proc_table.specs.declared.states.Channel.{Channel}
use Rattle.proc_table.specs.declared.states.Channel.TheVariants.{PipeBytes, PipeRoom}
use Rattle.proc_table.specs.Calls.{all_woken}
use Rattle.kernel_model.specs.KernelState.{KernelState}
use Rattle.kernel_model.specs.Descriptors.{let_go}
use Rattle.law_turns.proofs.write_ends.Pipes.{edited, shut_read, shut_write, reader_edited, writer_edited}

pub data PipeEnd : Type 0 where
  ReadEnd : PipeEnd
  WriteEnd : PipeEnd

abbrev pub object_of : PipeEnd → ℕ → Object
object_of ReadEnd id = PipeRead id
object_of WriteEnd id = PipeWrite id

-- who sleeps there is woken by its close
abbrev pub channel_of : PipeEnd → ℕ → Channel
channel_of ReadEnd id = PipeRoom id
channel_of WriteEnd id = PipeBytes id

abbrev pub shut_end : PipeEnd → ℕ → PipeState → Option PipeState
shut_end ReadEnd id = shut_read id
shut_end WriteEnd id = shut_write id

-- another process may hold the read end when the write end is closed, but no end when the read end is
abbrev pub MayHold : PipeEnd → ℕ → Object → Type 0
MayHold ReadEnd id object = (object ≢ PipeRead id) × (object ≢ PipeWrite id)
MayHold WriteEnd id object = object ≢ PipeWrite id

-- so it is of what an entry has open, if anything
abbrev pub IsNoEnd : PipeEnd → ℕ → Option Opened → Type 0
IsNoEnd end id None = Unit {0}
IsNoEnd end id (Some f) = MayHold end id f.object

-- it isn't this end
abbrev pub IsNotEnd : PipeEnd → ℕ → Option Opened → Type 0
IsNotEnd end id None = Unit {0}
IsNotEnd end id (Some f) = f.object ≢ object_of end id

pub no_writer : (end : PipeEnd) (id : ℕ) (object : Object) → MayHold end id object → object ≢ PipeWrite id
no_writer ReadEnd id object may = may.1
no_writer WriteEnd id object may = may

-- the last close of an end: the pipe changes, or is given up, and whoever sleeps there is woken
pub let_go_end : {S : Type 0} (end : PipeEnd) (id : ℕ) (k : KernelState S) → let_go k (object_of end id) ≡ record k { pipes = edited k.pipes id (shut_end end id); table = all_woken (channel_of end id) k.table }
let_go_end ReadEnd id k = λ i. record k { pipes = reader_edited k.pipes id i; table = all_woken (PipeRoom id) k.table }
let_go_end WriteEnd id k = λ i. record k { pipes = writer_edited k.pipes id i; table = all_woken (PipeBytes id) k.table }
