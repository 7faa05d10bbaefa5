-- Where nobody is awake: what each process waits for, as it is seen, and what a part of the tree does.
use Rattle.std.proofs.Common.{◌≡◌, ◌⊎◌, ℕ, ◌+◌, ◌≤◌, [], Some, length}
use Rattle.byte_pipe.specs.Limits.{pipe_size}
use Rattle.script_load.specs.declared.profile.Profile.{Profile}
use Rattle.user_calls.specs.declared.calls.Call.{Call}
use Rattle.user_calls.specs.declared.calls.Call.TheVariants.{Fork, Exec, Exit, Wait, MakePipe, Read, Write, OpenFile, Close, Dup}
use Rattle.process_model.specs.Seen.{Entry, input, out, diag, reader, writer, file, Fds, fd_at, Act, zombie, live, View}
use Rattle.process_model.specs.Effect.{Holds}
use Rattle.process_model.specs.Shape.{Node, Has, occurs, names, is_up}
use Rattle.process_model.specs.Part.{name_of}

-- somebody holds it
pub record IsHeld (V : View) (x : Entry) : Type 0 where
  pub holder : ℕ
  pub holds : Holds (V.slots holder) x

-- a process whose next call is this one, with these descriptors, has to wait
abbrev pub Blocked : View → ℕ → Fds → Call → Type 0
Blocked V p d Fork = ⊥
Blocked V p d (Exec found) = ⊥
Blocked V p d Exit = ⊥
Blocked V p d Wait = (q : ℕ) → V.slots q ≡ zombie p → ⊥
Blocked V p d MakePipe = ⊥
Blocked V p d (Read fd most) = (i : ℕ) × (fd_at d fd ≡ Some (reader i)) × (V.pipes i ≡ []) × IsHeld V (writer i)
Blocked V p d (Write fd bytes) = (i : ℕ) × (fd_at d fd ≡ Some (writer i)) × (length (V.pipes i) ≡ pipe_size) × IsHeld V (reader i)
Blocked V p d (OpenFile name mode) = ⊥
Blocked V p d (Close fd) = ⊥
Blocked V p d (Dup fd) = ⊥

abbrev pub AllBlocked : View → Type 0
AllBlocked V = (p parent put : ℕ) (act : Act) (d : Fds) → V.slots p ≡ live parent act put d → Blocked V p d act.call

-- an input, or an output, that is waited for
abbrev pub WaitsIn : View → Entry → Type 0
WaitsIn V input = ⊥
WaitsIn V out = ⊥
WaitsIn V diag = ⊥
WaitsIn V (reader i) = (V.pipes i ≡ []) × IsHeld V (writer i)
WaitsIn V (writer i) = ⊥
WaitsIn V (file e) = ⊥

abbrev pub WaitsOut : View → Entry → Type 0
WaitsOut V input = ⊥
WaitsOut V out = ⊥
WaitsOut V diag = ⊥
WaitsOut V (reader i) = ⊥
WaitsOut V (writer i) = (length (V.pipes i) ≡ pipe_size) × IsHeld V (reader i)
WaitsOut V (file e) = ⊥

-- a part with a as its input and b as its output is over, or some process of it waits for the one or the other
pub data Waits (V : View) (a b : Entry) (t : Node) : Type 0 where
  is_over : is_up t ≡ 0 → Waits V a b t
  on_input : WaitsIn V a → Waits V a b t
  on_output : WaitsOut V b → Waits V a b t

-- an end of the pipe of this name
abbrev pub IsEnd : Entry → ℕ → Type 0
IsEnd e k = (e ≡ reader k) ⊎ (e ≡ writer k)

-- a part, outside which nobody holds an end of a pipe of its own
pub record Whole (profile : Profile) (V : View) (a b old : Entry) (parent : ℕ) (t : Node) : Type 0 where
  pub has : Has profile V a b old parent t
  pub apart : (k : ℕ) → names k t + name_of k a + name_of k b ≤ 1
  pub inside : (q k : ℕ) (e : Entry) → IsEnd e k → Holds (V.slots q) e → 1 ≤ names k t → 1 ≤ occurs q t
