-- What each process that sleeps waits for: nothing of it has come yet (`sleep` and `wakeup` of `kernel/proc.c`).
use Rattle.std.specs.Prelude.{◌≡◌, ⊤, ℕ, ◌≤◌, true, false, [], ◌∷◌, Some, None, length}
use Rattle.byte_pipe.specs.Limits.{pipe_size}
use Rattle.byte_pipe.specs.PipeState.{PipeState}
use Rattle.proc_table.specs.declared.states.Channel.{Channel}
use Rattle.proc_table.specs.declared.states.Channel.TheVariants.{PipeBytes, PipeRoom, Children}
use Rattle.proc_table.specs.declared.states.Status.TheVariants.{Asleep}
use Rattle.proc_table.specs.Slots.{Table, Slot, at, is_free, is_child_of, is_zombie, is_zombie_child_of}
use Rattle.kernel_model.specs.Pipes.{Pipes, pipe_of}

-- a reader of the pipe has to wait: it is empty, and its write end is open
pub record WaitsForBytes (p : PipeState) : Type 0 where
  pub empty : p.bytes ≡ []
  pub writer : p.writer ≡ true

-- a writer to the pipe has to wait: it is full, and its read end is open
pub record WaitsForRoom (p : PipeState) : Type 0 where
  pub filled : length p.bytes ≡ pipe_size
  pub reader : p.reader ≡ true

-- the process has to wait for its children: it has one, and none that is a zombie
pub record WaitsForChild {S : Type 0} (t : Table S) (pid : ℕ) : Type 0 where
  pub child : (i : ℕ) × (is_child_of pid (at t i) ≡ true)
  pub living : (i : ℕ) → is_zombie_child_of pid (at t i) ≡ false

-- there is a pipe of that name, of which this holds
pub record IsThere (P : PipeState → Type 0) (pipes : Pipes) (id : ℕ) : Type 0 where
  pub pipe : PipeState
  pub found : pipe_of pipes id ≡ Some pipe
  pub holds : P pipe

-- a process q that sleeps on the channel has to wait: the children that it waits for are its own
abbrev pub Waits : {S : Type 0} → Table S → Pipes → ℕ → Channel → Type 0
Waits t pipes q (PipeBytes id) = IsThere WaitsForBytes pipes id
Waits t pipes q (PipeRoom id) = IsThere WaitsForRoom pipes id
Waits t pipes q (Children pid) = (pid ≡ q) × WaitsForChild t q

-- the slot's process sleeps on the channel
abbrev pub SleepsOn : {S : Type 0} → Slot S → Channel → Type 0
SleepsOn None c = ⊥
SleepsOn (Some p) c = p.status ≡ Asleep c

-- each process that sleeps has to
abbrev pub AllWait : {S : Type 0} → Table S → Pipes → Type 0
AllWait t pipes = (q : ℕ) (c : Channel) → SleepsOn (at t q) c → Waits t pipes q c

-- no pipe holds more than it can
abbrev pub AreSmall : Pipes → Type 0
AreSmall [] = ⊤
AreSmall (p ∷ rest) = (length p.1.bytes ≤ pipe_size) × AreSmall rest

-- a process that is there, and no zombie
pub record Lives {S : Type 0} (x : Slot S) : Type 0 where
  pub used : is_free x ≡ false
  pub alive : is_zombie x ≡ false

-- who descends from whom: init lives and has no parent, no process is its own child, and every parent lives
pub record IsFamily {S : Type 0} (t : Table S) : Type 0 where
  pub init : Lives (at t 0)
  pub eldest : (r : ℕ) → is_child_of r (at t 0) ≡ false
  pub own : (i : ℕ) → is_child_of i (at t i) ≡ false
  pub parents : (i q : ℕ) → is_child_of q (at t i) ≡ true → Lives (at t q)

-- a kernel between two events
pub record Rests {S : Type 0} (t : Table S) (pipes : Pipes) : Type 0 where
  pub waits : AllWait t pipes
  pub small : AreSmall pipes
  pub family : IsFamily t
