-- Pipes in their order. No public clause cites this module.
use Rattle.std.specs.Prelude.{◌≡◌, ◌≢◌, ℕ, suc, ◌<◌, ◌≤◌, ◌==◌, if◌then◌else◌, List, [], ◌∷◌, ◌++◌, Some, None, IsSome, map, length, slice_index}
use Rattle.byte_pipe.specs.PipeState.{PipeState}
use Rattle.fd_table.specs.declared.names.Object.TheVariants.{Input}
use Rattle.fd_table.specs.Entries.{Entries, entry_at, lowest_free_entry, added}
use Rattle.proc_table.specs.Slots.{Slot, Table, at}
use Rattle.kernel_model.specs.Pipes.{Pipes}
use Rattle.kernel_model.specs.KernelState.{KernelState}

abbrev pub name_of : ℕ × PipeState → ℕ
name_of p = p.0

-- the names, in the order of the pipes
abbrev pub names_in : Pipes → List ℕ
names_in pipes = map name_of pipes

-- the place of a name among these, the first one's being 0; a name that is not there gets one past all places
abbrev pub place_among : List ℕ → ℕ → ℕ
place_among [] id = id
place_among (n ∷ rest) id = if id == n then 0 else suc (place_among rest id)

-- the names ascend, the first is above this number, and the last is this one or below it
abbrev pub AscendWithin : ℕ → ℕ → Pipes → Type 0
AscendWithin low high [] = low ≤ high
AscendWithin low high (p ∷ rest) = (low < p.0) × AscendWithin p.0 high rest

-- init, in slot 0, is there and has no parent; any other process has one
abbrev pub IsBorn : {S : Type 0} → ℕ → Slot S → Type 0
IsBorn pid None = pid ≢ 0
IsBorn pid (Some p) = (pid ≡ 0 → p.parent ≡ None) × (pid ≢ 0 → IsSome p.parent)

abbrev pub AreBorn : {S : Type 0} → Table S → Type 0
AreBorn t = (pid : ℕ) → IsBorn pid (at t pid)

-- a kernel whose pipes stand in the order of their names, which are those of events that have happened, and where init alone
-- has no parent
pub record IsOrderly {S : Type 0} (k : KernelState S) : Type 0 where
  pub pipes : AscendWithin 0 k.events k.pipes
  pub born : AreBorn k.table

-- these are the numbers of all entries, in order
pub record AreNumbers (numbers : List ℕ) : Type 0 where
  pub all : length numbers ≡ 100
  pub each : (i : ℕ) → i < 100 → slice_index numbers i ≡ i

-- these are the numbers of the first entries, in order, and past them all are free
pub record AreNumbersOf (t : Entries) (numbers : List ℕ) : Type 0 where
  pub within : length numbers ≤ length t
  pub each : (i : ℕ) → i < length numbers → slice_index numbers i ≡ i
  pub free : (e : ℕ) → length numbers ≤ e → entry_at t e ≡ None

-- the standard input was opened at the lowest free entry, whose number was added
pub record IsNextNumber (t u : Entries) (before after : List ℕ) : Type 0 where
  pub entry : ℕ
  pub lowest : lowest_free_entry t ≡ Some entry
  pub opens : u ≡ added t Input
  pub adds : after ≡ before ++ entry ∷ []
