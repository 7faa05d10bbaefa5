-- What is shown of the kept parts of a kernel. No public clause cites this module.
use Rattle.std.specs.Prelude.{◌≡◌, ◌≢◌, ℕ, ◌-◌, List, ◌++◌, Option, Some, None, length, replicate}
use Rattle.std.specs.Rc.{rc_value}
use Rattle.std.specs.declared.rc.Rc.{Rc}
use Rattle.user_calls.specs.declared.calls.Call.{Call}
use Rattle.user_calls.specs.declared.calls.Call.TheVariants.{Fork, Exit, Wait, Close}
use Rattle.user_calls.specs.declared.calls.Reply.{Reply}
use Rattle.fd_table.specs.declared.names.Object.{Object}
use Rattle.fd_table.specs.declared.names.Object.TheVariants.{Input, Out, Diag, File, PipeRead, PipeWrite}
use Rattle.fd_table.specs.Entries.{Entries, OpenFile}
use Rattle.fd_table.specs.Descriptors.{Descriptors, entry_of}
use Rattle.proc_table.specs.declared.states.Status.TheVariants.{Runnable}
use Rattle.proc_table.specs.Slots.{Slot, Table, Process, at}
use Rattle.kernel_model.specs.KernelState.{file_at}
use Rattle.kernel_model.specs.Anyhow.{bare_slot}
use Rattle.kernel_model.specs.Privately.{IsPrivateCall}
use Rattle.order_search.specs.declared.private.NextCall.{NextCall}
use Rattle.order_search.specs.declared.private.NextCall.TheVariants.{Private, Closes, Forks, Waits, Exits, Unknown}
use Rattle.order_search.specs.declared.private.CloseOf.{CloseOf}
use Rattle.order_search.specs.declared.private.CloseOf.TheVariants.{ReadEnd, Other, Nothing}

-- the list, and nothing past it up to this length
unfoldable pub filled : {X : Type 0} → ℕ → List (Option X) → List (Option X)
filled n xs = xs ++ replicate (n - length xs) None

-- the slot of a process that is kept
abbrev pub slot_of : {S Z : Type 0} → Option (Rc (Process S) Z) → Slot S
slot_of None = None
slot_of (Some kept) = Some (rc_value kept)

-- slots of one number differ in more than who sleeps or runs and what descriptors hold
abbrev pub AreApart : {S : Type 0} → Table S → Table S → Type 0
AreApart t u = (i : ℕ) × (bare_slot (at t i) ≢ bare_slot (at u i))

-- the slot's process is Runnable, and its next call is private
pub record IsPrivateSlot {S : Type 0} (call : S → Reply → Call) (x : Slot S) : Type 0 where
  pub process : Process S
  pub is : x ≡ Some process
  pub ready : process.status ≡ Runnable
  pub calls : IsPrivateCall process.fds (call process.machine process.reply)

-- this is a process's next call, where its descriptors hold these entries
abbrev pub IsNextCall : Descriptors → Call → NextCall → Type 0
IsNextCall fds call Private = IsPrivateCall fds call
IsNextCall fds call (Closes entry) = (fd : ℕ) × (call ≡ Close fd) × (entry_of fds fd ≡ Some entry)
IsNextCall fds call Forks = call ≡ Fork
IsNextCall fds call Waits = call ≡ Wait
IsNextCall fds call Exits = call ≡ Exit
IsNextCall fds call Unknown = Unit {0}

-- the slot's process is Runnable, and its next call closes a descriptor that holds this entry
pub record IsClosingSlot {S : Type 0} (call : S → Reply → Call) (entry : ℕ) (x : Slot S) : Type 0 where
  pub process : Process S
  pub is : x ≡ Some process
  pub ready : process.status ≡ Runnable
  pub fd : ℕ
  pub calls : call process.machine process.reply ≡ Close fd
  pub holds : entry_of process.fds fd ≡ Some entry

-- the slot's process is Runnable, and this is its next call
pub record IsCallingSlot {S : Type 0} (call : S → Reply → Call) (calls_next : Call) (x : Slot S) : Type 0 where
  pub process : Process S
  pub is : x ≡ Some process
  pub ready : process.status ≡ Runnable
  pub calls : call process.machine process.reply ≡ calls_next

-- this is known of the next call of the slot's process: nothing, where it isn't Runnable
abbrev pub IsReadyCall : {S : Type 0} → (S → Reply → Call) → Slot S → NextCall → Type 0
IsReadyCall call x Private = IsPrivateSlot call x
IsReadyCall call x (Closes entry) = IsClosingSlot call entry x
IsReadyCall call x Forks = IsCallingSlot call Fork x
IsReadyCall call x Waits = IsCallingSlot call Wait x
IsReadyCall call x Exits = IsCallingSlot call Exit x
IsReadyCall call x Unknown = Unit {0}

-- an entry is in use, and has an object of this kind open
abbrev pub IsOpenAs : (Object → Type 0) → Option OpenFile → Type 0
IsOpenAs kind None = ⊥
IsOpenAs kind (Some f) = kind f.object

abbrev pub IsNoReadEnd : Object → Type 0
IsNoReadEnd Input = Unit {0}
IsNoReadEnd Out = Unit {0}
IsNoReadEnd Diag = Unit {0}
IsNoReadEnd (File name mode) = Unit {0}
IsNoReadEnd (PipeRead pipe) = ⊥
IsNoReadEnd (PipeWrite pipe) = Unit {0}

-- a descriptor of the entry is one of this
abbrev pub IsCloseOf : Option OpenFile → CloseOf → Type 0
IsCloseOf x (ReadEnd pipe) = IsOpenAs (λ o. o ≡ PipeRead pipe) x
IsCloseOf x Other = IsOpenAs IsNoReadEnd x
IsCloseOf x Nothing = x ≡ None

-- none of the descriptors is one of this pipe's write end
abbrev pub HasNoWriteEnd : Entries → ℕ → Descriptors → Type 0
HasNoWriteEnd E pipe fds = (fd : ℕ) (file : OpenFile) → file_at E (entry_of fds fd) ≡ Some file → file.object ≢ PipeWrite pipe
