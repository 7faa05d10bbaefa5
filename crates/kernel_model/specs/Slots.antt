-- Kernels that differ only in the numbers of their slots, and in what is left in the slots of zombies.
use Rattle.std.specs.Prelude.{◌≡◌, ℕ, ◌<◌, Option, Some, None}
use Rattle.proc_table.specs.declared.pid.TheConstants.{PROCS}
use Rattle.proc_table.specs.declared.states.Channel.{Channel}
use Rattle.proc_table.specs.declared.states.Channel.TheVariants.{PipeBytes, PipeRoom, Children}
use Rattle.proc_table.specs.declared.states.Status.{Status}
use Rattle.proc_table.specs.declared.states.Status.TheVariants.{Runnable, Running, Asleep, Zombie}
use Rattle.proc_table.specs.Slots.{Slot, Table, Process, at}
use Rattle.kernel_model.specs.KernelState.{KernelState}
use Rattle.kernel_model.specs.Numbers.{Numbering, renumbered_place}

-- a channel, a status, a process and a slot after each slot got another number: a process names its parent's slot, and its own where it
-- waits for children
abbrev pub moved_channel : (ℕ → ℕ) → Channel → Channel
moved_channel to (PipeBytes pipe) = PipeBytes pipe
moved_channel to (PipeRoom pipe) = PipeRoom pipe
moved_channel to (Children pid) = Children (to pid)

abbrev pub moved_status : (ℕ → ℕ) → Status → Status
moved_status to Runnable = Runnable
moved_status to (Running h) = Running h
moved_status to (Asleep c) = Asleep (moved_channel to c)
moved_status to Zombie = Zombie

abbrev pub moved_process : {S : Type 0} → (ℕ → ℕ) → Process S → Process S
moved_process to p = record p { status = moved_status to p.status; parent = renumbered_place to p.parent }

abbrev pub moved_slot : {S : Type 0} → (ℕ → ℕ) → Slot S → Slot S
moved_slot to None = None
moved_slot to (Some p) = Some (moved_process to p)

-- a zombie that is a child of this slot's process, or of none
pub record IsZombieOf {S : Type 0} (parent : Option ℕ) (x : Slot S) : Type 0 where
  pub process : Process S
  pub there : x ≡ Some process
  pub dead : process.status ≡ Zombie
  pub child : process.parent ≡ parent

-- y is what x is after slots got other numbers; of a zombie only its parent counts
pub data IsMoved {S : Type 0} (to : ℕ → ℕ) (x y : Slot S) : Type 0 where
  same : y ≡ moved_slot to x → IsMoved to x y
  zombies : (parent : Option ℕ) → IsZombieOf parent x → IsZombieOf (renumbered_place to parent) y → IsMoved to x y

-- the slots of u are those of t under other numbers; init's keeps its own
pub record AreMoved {S : Type 0} (n : Numbering) (t u : Table S) : Type 0 where
  pub init : n.to 0 ≡ 0
  pub there : (i : ℕ) → i < PROCS → n.to i < PROCS
  pub here : (i : ℕ) → i < PROCS → n.back i < PROCS
  pub slots : (i : ℕ) → IsMoved n.to (at t i) (at u (n.to i))

-- k and l differ only in the numbers of their slots and in what is left of zombies
pub record SameButSlots {S : Type 0} (k l : KernelState S) : Type 0 where
  pub numbering : Numbering
  pub moved : AreMoved numbering k.table l.table
  pub rest : record k { table = l.table } ≡ l
