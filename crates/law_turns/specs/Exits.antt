-- An exit, and another process's turn, in either order.
use Rattle.std.specs.Prelude.{◌≡◌, ◌≢◌, ℕ, Some, None}
use Rattle.user_calls.specs.declared.calls.Call.{Call}
use Rattle.user_calls.specs.declared.calls.Call.TheVariants.{Exit}
use Rattle.user_calls.specs.declared.calls.Reply.{Reply}
use Rattle.fd_table.specs.Descriptors.{entry_of}
use Rattle.proc_table.specs.declared.states.Status.TheVariants.{Runnable}
use Rattle.proc_table.specs.Slots.{Process, at}
use Rattle.kernel_model.specs.KernelState.{KernelState}
use Rattle.kernel_model.specs.Anyhow.{AlikeAnyhow}
use Rattle.kernel_model.specs.Begun.{IsBegun}
use Rattle.kernel_model.specs.Closes.{HasRoomAhead}
use Rattle.kernel_model.specs.Turns.{after_turn}
use Rattle.kernel_model.specs.Slots.{SameButSlots}
use Rattle.kernel_model.specs.Giving.{ReapsNext, ExitsNext}

module _ {S : Type 0} (call : S → Reply → Call) (next : S → Reply → S) where
  -- the process p is Runnable and exits next, and it holds no descriptor
  pub record ExitsBareNext (k : KernelState S) (p : ℕ) : Type 0 where
    pub process : Process S
    pub there : at k.table p ≡ Some process
    pub ready : process.status ≡ Runnable
    pub calls : call process.machine process.reply ≡ Exit
    pub bare : (fd : ℕ) → entry_of process.fds fd ≡ None

  -- p's turn leads to a, and q's turn to l: each can take its turn then, and both orders come to the same but for who sleeps, numbers of
  -- entries, names of pipes and the count of events
  pub record InEitherOrderAnyhow (a l : KernelState S) (p q : ℕ) : Type 0 where
    pub after : KernelState S
    pub second : after_turn call next a q ≡ Some after
    pub both : KernelState S
    pub taken : after_turn call next l p ≡ Some both
    pub alike : AlikeAnyhow after both

  -- p can take its turn in l too, and a does already what comes of both turns
  pub record IsDoneAnyhow (a l : KernelState S) (p : ℕ) : Type 0 where
    pub both : KernelState S
    pub taken : after_turn call next l p ≡ Some both
    pub alike : AlikeAnyhow a both

  -- q next waits and frees a zombie, though it may free another one after p's turn: both orders come to the same but for the numbers of
  -- slots and what is left of zombies too
  pub record InEitherOrderReaping (k a l : KernelState S) (p q : ℕ) : Type 0 where
    pub reaps : ReapsNext call next k q
    pub after : KernelState S
    pub second : after_turn call next a q ≡ Some after
    pub both : KernelState S
    pub taken : after_turn call next l p ≡ Some both
    pub between : KernelState S
    pub same : SameButSlots after between
    pub alike : AlikeAnyhow between both

  -- the turn of the process p, not init, is such an exit, in a kernel of a run that has room
  pub record ExitsInRoom (k : KernelState S) (p : ℕ) : Type 0 where
    pub child : p ≢ 0
    pub exits : ExitsNext call next k p
    pub room : HasRoomAhead call next k
    pub begun : IsBegun call next k
