-- Closes that give way to nobody's turn: all but of the read end of a pipe to which somebody else can write, where whatever is opened
-- later finds free entries.
use Rattle.std.specs.Prelude.{◌≡◌, ◌≢◌, ◌⊎◌, ℕ, ◌<◌, ◌≤◌, List, Some}
use Rattle.user_calls.specs.declared.calls.Call.{Call}
use Rattle.user_calls.specs.declared.calls.Call.TheVariants.{Fork, Exec, Exit, Wait, MakePipe, Read, Write, OpenFile, Close, Dup}
use Rattle.user_calls.specs.declared.calls.Reply.{Reply}
use Rattle.fd_table.specs.declared.names.Object.{Object}
use Rattle.fd_table.specs.declared.names.Object.TheVariants.{Input, Out, Diag, File, PipeRead, PipeWrite}
use Rattle.fd_table.specs.Entries.{OpenFile as Opened, entry_at, free_count}
use Rattle.fd_table.specs.Descriptors.{entry_of}
use Rattle.proc_table.specs.declared.states.Status.TheVariants.{Runnable}
use Rattle.proc_table.specs.Slots.{Process, at}
use Rattle.kernel_model.specs.KernelState.{KernelState, fds_at, file_at}
use Rattle.kernel_model.specs.Turns.{after_turns}
use Rattle.kernel_model.specs.Privately.{Privately}
use Rattle.kernel_model.specs.Begun.{IsBegun}

-- as many entries are free as the call opens
abbrev pub FindsFree : {S : Type 0} → KernelState S → Call → Type 0
FindsFree k Fork = Unit {0}
FindsFree k (Exec found) = Unit {0}
FindsFree k Exit = Unit {0}
FindsFree k Wait = Unit {0}
FindsFree k MakePipe = 2 ≤ free_count k.entries
FindsFree k (Read fd n) = Unit {0}
FindsFree k (Write fd b) = Unit {0}
FindsFree k (OpenFile name mode) = 0 < free_count k.entries
FindsFree k (Close fd) = Unit {0}
FindsFree k (Dup fd) = Unit {0}

-- the object is no end of a pipe
abbrev pub IsPlain : Object → Type 0
IsPlain Input = Unit {0}
IsPlain Out = Unit {0}
IsPlain Diag = Unit {0}
IsPlain (File name mode) = Unit {0}
IsPlain (PipeRead id) = ⊥
IsPlain (PipeWrite id) = ⊥

-- no process but p has a descriptor of this pipe's write end
abbrev pub NobodyElseWrites : {S : Type 0} → KernelState S → ℕ → ℕ → Type 0
NobodyElseWrites k id p = (q fd : ℕ) (file : Opened) → q ≢ p → file_at k.entries (entry_of (fds_at k q) fd) ≡ Some file → file.object ≢ PipeWrite id

-- p can close a descriptor of the object at once: it is no pipe's read end, or nobody else writes to that pipe
abbrev pub IsClosedAtOnce : {S : Type 0} → KernelState S → ℕ → Object → Type 0
IsClosedAtOnce k p Input = Unit {0}
IsClosedAtOnce k p Out = Unit {0}
IsClosedAtOnce k p Diag = Unit {0}
IsClosedAtOnce k p (File name mode) = Unit {0}
IsClosedAtOnce k p (PipeRead id) = NobodyElseWrites k id p
IsClosedAtOnce k p (PipeWrite id) = Unit {0}

module _ {S : Type 0} (call : S → Reply → Call) (next : S → Reply → S) where
  -- if the call that q makes next opens something, it finds free entries for it
  abbrev pub FindsFreeNext : KernelState S → ℕ → Type 0
  FindsFreeNext k q = (y : Process S) → at k.table q ≡ Some y → FindsFree k (call y.machine y.reply)

  -- whoever is about to open something, now or after any turns, finds free entries for it
  abbrev pub HasRoomAhead : KernelState S → Type 0
  HasRoomAhead k = (pids : List ℕ) (m : KernelState S) (q : ℕ) → after_turns call next k pids ≡ Some m → FindsFreeNext m q

  -- the process p is Runnable, and next closes a descriptor of an object of this kind
  pub record ClosesNext (kind : Object → Type 0) (k : KernelState S) (p : ℕ) : Type 0 where
    pub process : Process S
    pub there : at k.table p ≡ Some process
    pub ready : process.status ≡ Runnable
    pub fd : ℕ
    pub calls : call process.machine process.reply ≡ Close fd
    pub entry : ℕ
    pub holds : entry_of process.fds fd ≡ Some entry
    pub file : Opened
    pub used : entry_at k.entries entry ≡ Some file
    pub of : kind file.object

  -- the turn of the process p, not init, is such a close, in a kernel that has room
  pub record ClosesInRoom (k : KernelState S) (p : ℕ) : Type 0 where
    pub child : p ≢ 0
    pub closes : ClosesNext (IsClosedAtOnce k p) k p
    pub room : HasRoomAhead k

  -- it is such a close, or private
  abbrev pub ClosesOrPrivate : KernelState S → ℕ → Type 0
  ClosesOrPrivate k p = Privately call k p ⊎ ClosesInRoom k p

  -- the same, in a kernel of a run
  pub record ClosesOrPrivateBegun (k : KernelState S) (p : ℕ) : Type 0 where
    pub gives : ClosesOrPrivate k p
    pub begun : IsBegun call next k
