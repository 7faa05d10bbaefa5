-- What a table of processes is searched by: the states and the parents.
use Rattle.std.specs.Prelude.{◌≡◌, ℕ, ◌<◌, Bool, true, false, ◌&&◌, List, ◌∷◌, Option, Some, None, length, map, replicate, slice_index_or}
use Rattle.proc_table.specs.declared.heads.Head.{Head}
use Rattle.proc_table.specs.declared.pid.TheConstants.{PROCS}
use Rattle.proc_table.specs.declared.table.TheConstants.{HARTS}
use Rattle.proc_table.specs.declared.states.Status.{Status}
use Rattle.proc_table.specs.declared.states.Status.TheVariants.{Runnable, Running, Asleep, Zombie}
use Rattle.proc_table.specs.Slots.{Slot, Table, is_number, is_zombie_status}

-- the head of a slot
abbrev pub head_of : {S : Type 0} → Slot S → Option Head
head_of None = None
head_of (Some p) = Some (record { status = p.status; parent = p.parent })

-- of the slot of a number
abbrev pub head_at : List (Option Head) → ℕ → Option Head
head_at heads index = slice_index_or heads index None

-- init and the top shell, its child
abbrev pub boot_heads : List (Option Head)
boot_heads = Some (record { status = Runnable; parent = None }) ∷ Some (record { status = Runnable; parent = Some 0 }) ∷ replicate 62 None

abbrev pub head_has : (Status → Bool) → Option Head → Bool
head_has test None = false
head_has test (Some head) = test head.status

abbrev pub head_is_free : Option Head → Bool
head_is_free None = true
head_is_free (Some head) = false

abbrev pub head_is_child_of : ℕ → Option Head → Bool
head_is_child_of pid None = false
head_is_child_of pid (Some head) = is_number pid head.parent

abbrev pub head_is_zombie_child_of : ℕ → Option Head → Bool
head_is_zombie_child_of pid head = head_is_child_of pid head && head_has is_zombie_status head

-- the same with another parent
abbrev pub with_parent : ℕ → Option Head → Option Head
with_parent parent None = None
with_parent parent (Some head) = Some (record head { parent = Some parent })

-- the same process as init's child
abbrev pub to_init : {S : Type 0} → Slot S → Slot S
to_init None = None
to_init (Some p) = Some (record p { parent = Some 0 })

-- the numbers of a head's groups: of its state, of the hart that it runs on, of its parent
abbrev pub state_number : Status → ℕ
state_number Runnable = 1
state_number (Running h) = 2
state_number (Asleep c) = 3
state_number Zombie = 4

abbrev pub state_key : Option Head → Option ℕ
state_key None = Some 0
state_key (Some head) = Some (state_number head.status)

abbrev pub hart_by : Status → Option ℕ
hart_by Runnable = None
hart_by (Running h) = Some h
hart_by (Asleep c) = None
hart_by Zombie = None

abbrev pub hart_key : Option Head → Option ℕ
hart_key None = None
hart_key (Some head) = hart_by head.status

abbrev pub parent_key : Option Head → Option ℕ
parent_key None = None
parent_key (Some head) = head.parent

-- what runs, runs on one of the harts
abbrev pub IsOnHart : Option Head → Type 0
IsOnHart head = (h : ℕ) → hart_key head ≡ Some h → h < HARTS

-- what holds of a table: it has 64 slots, and these heads are theirs
pub record AreHeads {S : Type 0} (slots : Table S) (heads : List (Option Head)) : Type 0 where
  pub all : length slots ≡ PROCS
  pub theirs : heads ≡ map head_of slots
