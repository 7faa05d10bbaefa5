-- The close of a pipe's write end, and two turns in either order.
use Rattle.std.specs.Prelude.{◌≡◌, ◌≢◌, ℕ, [], Some}
use Rattle.user_calls.specs.declared.calls.Call.{Call}
use Rattle.user_calls.specs.declared.calls.Call.TheVariants.{Read}
use Rattle.user_calls.specs.declared.calls.Reply.{Reply}
use Rattle.byte_pipe.specs.PipeState.{PipeState}
use Rattle.fd_table.specs.declared.names.Object.TheVariants.{PipeRead}
use Rattle.fd_table.specs.Entries.{OpenFile as Opened}
use Rattle.fd_table.specs.Descriptors.{entry_of}
use Rattle.proc_table.specs.Slots.{Process, at}
use Rattle.kernel_model.specs.KernelState.{KernelState, file_at}
use Rattle.kernel_model.specs.Pipes.{pipe_of}
use Rattle.kernel_model.specs.Woke.{AlikeAwake}
use Rattle.kernel_model.specs.Turns.{after_turn}
use Rattle.kernel_model.specs.Numbers.{SameButNumbers}

module _ {S : Type 0} (call : S → Reply → Call) (next : S → Reply → S) where
  -- if q next reads from this pipe, the pipe holds bytes
  abbrev pub FindsBytesNext : KernelState S → ℕ → ℕ → Type 0
  FindsBytesNext k id q =
      (y : Process S) (fd n : ℕ) (f : Opened) (pipe : PipeState) → at k.table q ≡ Some y → call y.machine y.reply ≡ Read fd n → file_at k.entries (entry_of y.fds fd) ≡ Some f → f.object ≡ PipeRead id
      → pipe_of k.pipes id ≡ Some pipe → pipe.bytes ≢ []

  -- q, which has put nothing, next reads from this pipe while it is empty
  pub record ReadsEmptyNext (k : KernelState S) (id q : ℕ) : Type 0 where
    pub process : Process S
    pub there : at k.table q ≡ Some process
    pub put : process.put ≡ 0
    pub fd : ℕ
    pub most : ℕ
    pub calls : call process.machine process.reply ≡ Read fd most
    pub file : Opened
    pub holds : file_at k.entries (entry_of process.fds fd) ≡ Some file
    pub reads : file.object ≡ PipeRead id
    pub pipe : PipeState
    pub named : pipe_of k.pipes id ≡ Some pipe
    pub empty : pipe.bytes ≡ []

  -- p's turn leads to a, and another turn to l: p can take its turn there too, and a does already what comes of both
  pub record IsDoneAlready (a l : KernelState S) (p : ℕ) : Type 0 where
    pub both : KernelState S
    pub taken : after_turn call next l p ≡ Some both
    pub alike : AlikeAwake a both

  -- p's turn leads to a, and q's turn to l: each can take its turn then, and what both orders come to differs only in the numbers of
  -- entries, in who sleeps, in what pipes are called and in how many events there were
  pub record InEitherOrderAwake (a l : KernelState S) (p q : ℕ) : Type 0 where
    pub after : KernelState S
    pub second : after_turn call next a q ≡ Some after
    pub both : KernelState S
    pub taken : after_turn call next l p ≡ Some both
    pub between : KernelState S
    pub alike : AlikeAwake after between
    pub same : SameButNumbers between both
