-- A kernel while a call of one process is under way.
use Rattle.std.specs.Prelude.{◌≡◌, ◌≢◌, ℕ, false}
use Rattle.proc_table.specs.declared.states.Channel.{Channel}
use Rattle.proc_table.specs.Slots.{Table, Slot, at, is_free, is_child_of, is_zombie, is_zombie_child_of, same_channel}
use Rattle.byte_pipe.specs.PipeState.{PipeState}
use Rattle.proc_table.specs.declared.states.Channel.TheVariants.{PipeBytes, PipeRoom}
use Rattle.kernel_model.specs.Pipes.{Pipes}
use Rattle.law_kernel.specs.Sleeping.{Waits, SleepsOn, AreSmall, IsFamily, WaitsForBytes, WaitsForRoom}

-- each process that sleeps has to, but perhaps pid, whose call is under way
abbrev pub OthersWait : {S : Type 0} → Table S → Pipes → ℕ → Type 0
OthersWait t pipes pid = (q : ℕ) (c : Channel) → q ≢ pid → SleepsOn (at t q) c → Waits t pipes q c

-- a kernel in the middle of a call of pid
pub record IsBusy {S : Type 0} (t : Table S) (pipes : Pipes) (pid : ℕ) : Type 0 where
  pub others : OthersWait t pipes pid
  pub small : AreSmall pipes
  pub family : IsFamily t

-- a slot after a change that leaves its parent, makes no zombie, and neither fills nor frees it
pub record Stays {S : Type 0} (x y : Slot S) : Type 0 where
  pub child : (r : ℕ) → is_child_of r y ≡ is_child_of r x
  pub zombie : (r : ℕ) → is_zombie_child_of r x ≡ false → is_zombie_child_of r y ≡ false
  pub free : is_free y ≡ is_free x
  pub alive : is_zombie x ≡ false → is_zombie y ≡ false

-- the pipe of that name is changed, so that all who wait for it must go on but those of the channel c
pub record IsFair (id : ℕ) (c : Channel) (p now : PipeState) : Type 0 where
  pub bytes : same_channel c (PipeBytes id) ≡ false → WaitsForBytes p → WaitsForBytes now
  pub room : same_channel c (PipeRoom id) ≡ false → WaitsForRoom p → WaitsForRoom now
