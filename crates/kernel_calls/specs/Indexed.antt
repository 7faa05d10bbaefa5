-- How the pipes stand in a slab, and by what index they are found. No public clause cites this module.
use Rattle.std.specs.Prelude.{◌≡◌, ◌≢◌, ℕ, Bool, ◌==◌, List, All, AllPairs, length, map, unwrap_or}
use Rattle.slab.specs.Slab.{Slab, ContainsKey, get, slab_len}
use Rattle.byte_pipe.specs.PipeState.{PipeState, new_pipe}
use Rattle.kernel_model.specs.Pipes.{Pipes}
use Rattle.kernel_calls.specs.declared.named.Named.{Named}

-- the entry has the name
abbrev pub has_name : ℕ → Named → Bool
has_name id entry = id == entry.name

-- the pipe under a key
abbrev pub pipe_under : Slab PipeState → ℕ → PipeState
pipe_under live key = unwrap_or (get live key) new_pipe

-- the name and the pipe of an entry of the index
abbrev pub shown : Slab PipeState → Named → ℕ × PipeState
shown live entry = (entry.name, pipe_under live entry.key)

-- the names and pipes, in the order of the index
abbrev pub listed : List Named → Slab PipeState → Pipes
listed index live = map (shown live) index

-- each entry of the index has a pipe of its own, and there are no other pipes
pub record AreIndexed (index : List Named) (live : Slab PipeState) : Type 0 where
  pub held : All (λ (entry : Named). ContainsKey live entry.key) index
  pub apart : AllPairs (λ (entry later : Named). entry.key ≢ later.key) index
  pub all : slab_len live ≡ length index
