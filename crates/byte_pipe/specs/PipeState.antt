-- What contracts see of a pipe, and what each call on it does.
use Rattle.std.specs.Prelude.{ℕ, Bool, true, false, not, min, ◌-◌, ◌==◌, if◌then◌else◌, List, [], ◌++◌, length, take, drop}
use Rattle.byte_pipe.specs.Limits.{pipe_size}
use Rattle.byte_pipe.specs.declared.Put.{Put}
use Rattle.byte_pipe.specs.declared.Put.TheVariants.{Took, Full, Closed}
use Rattle.byte_pipe.specs.declared.Take.{Take}
use Rattle.byte_pipe.specs.declared.Take.TheVariants.{Got, Empty, End}

-- the bytes that a pipe holds, the oldest first, and whether its reader and its writer are open
pub record PipeState : Type 0 where
  pub bytes : List ℕ
  pub reader : Bool
  pub writer : Bool

-- a pipe that was just made
abbrev pub new_pipe : PipeState
new_pipe = record { bytes = []; reader = true; writer = true }

-- how many more bytes a pipe can hold
abbrev pub room : PipeState → ℕ
room p = pipe_size - length p.bytes

-- the result of a put of xs
abbrev pub put_answer : PipeState → List ℕ → Put
put_answer p xs =
    if length xs == 0 then Took 0
    else (if not p.reader then Closed
    else (if room p == 0 then Full
    else Took (min (room p) (length xs))))

-- the bytes of xs that a put appends: the first, as many as there is room for, and none once the reader is closed
abbrev pub appended : PipeState → List ℕ → List ℕ
appended p xs = if p.reader then take (room p) xs else []

-- the pipe after a put of xs
abbrev pub after_put : PipeState → List ℕ → PipeState
after_put p xs = record { bytes = p.bytes ++ appended p xs; reader = p.reader; writer = p.writer }

-- the result of a take into a buffer of n bytes
abbrev pub take_answer : PipeState → ℕ → Take
take_answer p n =
    if length p.bytes == 0 then (if p.writer then Empty else End)
    else Got (min (length p.bytes) n)

-- the buffer after a take: the oldest bytes, as many as it can hold, and then what it held there before
abbrev pub filled : PipeState → List ℕ → List ℕ
filled p buffer = take (length buffer) p.bytes ++ drop (length p.bytes) buffer

-- the pipe after a take into a buffer of n bytes
abbrev pub after_take : PipeState → ℕ → PipeState
after_take p n = record { bytes = drop n p.bytes; reader = p.reader; writer = p.writer }

-- the pipe after its reader is closed
abbrev pub after_close_read : PipeState → PipeState
after_close_read p = record { bytes = p.bytes; reader = false; writer = p.writer }

-- the pipe after its writer is closed
abbrev pub after_close_write : PipeState → PipeState
after_close_write p = record { bytes = p.bytes; reader = p.reader; writer = false }
