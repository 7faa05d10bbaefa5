-- Turns that give way to nobody's: private ones, closes, forks, waits that free a zombie's slot, and exits.
use Rattle.std.specs.Prelude.{◌≡◌, ◌≢◌, ℕ, true, List, Some, None}
use Rattle.user_calls.specs.declared.calls.Call.{Call}
use Rattle.user_calls.specs.declared.calls.Call.TheVariants.{Fork, Exit, Wait}
use Rattle.user_calls.specs.declared.calls.Reply.{Reply}
use Rattle.fd_table.specs.Entries.{OpenFile as Opened}
use Rattle.fd_table.specs.Descriptors.{entry_of}
use Rattle.proc_table.specs.declared.states.Status.TheVariants.{Runnable}
use Rattle.proc_table.specs.Slots.{Process, at, is_zombie_child_of}
use Rattle.proc_table.specs.Calls.{lowest_free}
use Rattle.kernel_model.specs.KernelState.{KernelState, file_at}
use Rattle.kernel_model.specs.Turns.{after_turns}
use Rattle.kernel_model.specs.Privately.{Privately}
use Rattle.kernel_model.specs.Begun.{IsBegun}
use Rattle.kernel_model.specs.Closes.{HasRoomAhead, IsClosedAtOnce, ClosesInRoom}

module _ {S : Type 0} (call : S → Reply → Call) where
  -- the process p is Runnable and next forks
  pub record ForksNext (k : KernelState S) (p : ℕ) : Type 0 where
    pub process : Process S
    pub there : at k.table p ≡ Some process
    pub ready : process.status ≡ Runnable
    pub calls : call process.machine process.reply ≡ Fork

module _ {S : Type 0} (call : S → Reply → Call) (next : S → Reply → S) where
  -- the process p is Runnable, next waits for a child, and has one that is a zombie
  pub record ReapsNext (k : KernelState S) (p : ℕ) : Type 0 where
    pub process : Process S
    pub there : at k.table p ≡ Some process
    pub ready : process.status ≡ Runnable
    pub calls : call process.machine process.reply ≡ Wait
    pub zombie : ℕ
    pub dead : is_zombie_child_of p (at k.table zombie) ≡ true

  -- the process p is Runnable and exits next, and it can close at once whatever descriptors it holds
  pub record ExitsNext (k : KernelState S) (p : ℕ) : Type 0 where
    pub process : Process S
    pub there : at k.table p ≡ Some process
    pub ready : process.status ≡ Runnable
    pub calls : call process.machine process.reply ≡ Exit
    pub at_once : (fd : ℕ) (file : Opened) → file_at k.entries (entry_of process.fds fd) ≡ Some file → IsClosedAtOnce k p file.object

  -- if q forks next, a slot is free
  abbrev pub FindsSlotNext : KernelState S → ℕ → Type 0
  FindsSlotNext k q = (y : Process S) → at k.table q ≡ Some y → call y.machine y.reply ≡ Fork → lowest_free k.table ≢ None

  -- whoever is about to fork, now or after any turns, finds a free slot
  abbrev pub HasSlotsAhead : KernelState S → Type 0
  HasSlotsAhead k = (pids : List ℕ) (m : KernelState S) (q : ℕ) → after_turns call next k pids ≡ Some m → FindsSlotNext m q

  -- the turn of the process p is such a one; only a wait can be init's
  pub data GivesWay (k : KernelState S) (p : ℕ) : Type 0 where
    privately : Privately call k p → GivesWay k p
    closes : ClosesInRoom call next k p → GivesWay k p
    forks : p ≢ 0 → ForksNext call k p → HasSlotsAhead k → GivesWay k p
    reaps : ReapsNext k p → HasSlotsAhead k → GivesWay k p
    exits : p ≢ 0 → ExitsNext k p → HasRoomAhead call next k → GivesWay k p

  -- the same, in a kernel of a run
  pub record GivesWayBegun (k : KernelState S) (p : ℕ) : Type 0 where
    pub gives : GivesWay k p
    pub begun : IsBegun call next k
