-- Where the pipe of a name stands. Of these a public clause cites `placed` alone.
use Rattle.std.specs.Prelude.{◌≡◌, ℕ, ◌<◌, Bool, ◌==◌, length, Some, slice_index_or, slice_set, remove}
use Rattle.byte_pipe.specs.PipeState.{PipeState, new_pipe}
use Rattle.kernel_model.specs.Pipes.{Pipes, pipe_of, with_pipe, without_pipe}

-- the pipe has the name
abbrev pub is_named : ℕ → ℕ × PipeState → Bool
is_named id p = id == p.0

-- the name and the pipe at a place
abbrev pub placed : Pipes → ℕ → ℕ × PipeState
placed pipes at = slice_index_or pipes at (0, new_pipe)

-- the pipes after the one at a place became this one
abbrev pub with_placed : Pipes → ℕ → PipeState → Pipes
with_placed pipes at now = slice_set pipes at ((placed pipes at).0, now)

-- the pipe of that name stands at i: there it is found, changed and removed
pub record IsPlaced (pipes : Pipes) (id i : ℕ) : Type 0 where
  pub within : i < length pipes
  pub found : pipe_of pipes id ≡ Some (placed pipes i).1
  pub changed : (now : PipeState) → with_pipe pipes id now ≡ with_placed pipes i now
  pub removed : (now : PipeState) → without_pipe pipes id ≡ remove (with_placed pipes i now) i
