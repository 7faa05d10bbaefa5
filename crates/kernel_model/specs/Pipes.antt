-- The pipes of which an end is open, each named by the number of the event that made it (own: xv6 has pointers).
use Rattle.std.specs.Prelude.{ℕ, ◌==◌, ◌||◌, if◌then◌else◌, List, [], ◌∷◌, ◌++◌, Option, Some, None}
use Rattle.byte_pipe.specs.PipeState.{PipeState, new_pipe, after_put, after_take, after_close_read, after_close_write}

-- the names and pipes, in the order in which they were made
abbrev pub Pipes : Type 0
Pipes = List (ℕ × PipeState)

-- the pipe of that name, if there is one
abbrev pub pipe_of : Pipes → ℕ → Option PipeState
pipe_of [] id = None
pipe_of (p ∷ rest) id = if id == p.0 then Some p.1 else pipe_of rest id

-- the pipes after the one of that name became this one
abbrev pub with_pipe : Pipes → ℕ → PipeState → Pipes
with_pipe [] id now = []
with_pipe (p ∷ rest) id now = if id == p.0 then (p.0, now) ∷ rest else p ∷ with_pipe rest id now

-- the pipes after the one of that name was given up
abbrev pub without_pipe : Pipes → ℕ → Pipes
without_pipe [] id = []
without_pipe (p ∷ rest) id = if id == p.0 then rest else p ∷ without_pipe rest id

-- the pipes after one of that name was made (`pipealloc`)
abbrev pub with_new : Pipes → ℕ → Pipes
with_new pipes id = pipes ++ (id, new_pipe) ∷ []

-- the pipes after an end of the one of that name was closed: it is given up with the second one (`pipeclose`)
abbrev pub kept_while_open : Pipes → ℕ → PipeState → Pipes
kept_while_open pipes id now = if now.reader || now.writer then with_pipe pipes id now else without_pipe pipes id

-- the pipes after a put of xs into the one of that name, if there is one
abbrev pub put_into : Pipes → ℕ → List ℕ → Option PipeState → Pipes
put_into pipes id xs None = pipes
put_into pipes id xs (Some p) = with_pipe pipes id (after_put p xs)

-- the pipes after a take from the one of that name into a buffer of n bytes
abbrev pub taken_from : Pipes → ℕ → ℕ → Option PipeState → Pipes
taken_from pipes id n None = pipes
taken_from pipes id n (Some p) = with_pipe pipes id (after_take p n)

-- the pipes after the read end of the one of that name was closed
abbrev pub reader_gone : Pipes → ℕ → Option PipeState → Pipes
reader_gone pipes id None = pipes
reader_gone pipes id (Some p) = kept_while_open pipes id (after_close_read p)

-- the pipes after the write end of the one of that name was closed
abbrev pub writer_gone : Pipes → ℕ → Option PipeState → Pipes
writer_gone pipes id None = pipes
writer_gone pipes id (Some p) = kept_while_open pipes id (after_close_write p)
