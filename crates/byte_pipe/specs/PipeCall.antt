-- Any list of calls on one pipe: what their results say was put and taken, and the pipe after them.
use Rattle.std.specs.Prelude.{ℕ, List, [], ◌∷◌, ◌++◌, length, take}
use Rattle.byte_pipe.specs.declared.Put.{Put}
use Rattle.byte_pipe.specs.declared.Put.TheVariants.{Took, Full, Closed}
use Rattle.byte_pipe.specs.declared.Take.{Take}
use Rattle.byte_pipe.specs.declared.Take.TheVariants.{Got, Empty, End}
use Rattle.byte_pipe.specs.PipeState.{PipeState, put_answer, after_put, take_answer, filled, after_take, after_close_read, after_close_write}

-- a call: a put of some bytes, a take into a buffer that holds some bytes, or the closing of an end
pub data PipeCall : Type 0 where
  puts : List ℕ → PipeCall
  takes : List ℕ → PipeCall
  closes_read : PipeCall
  closes_write : PipeCall

-- the pipe after a call
abbrev pub after_call : PipeState → PipeCall → PipeState
after_call p (puts xs) = after_put p xs
after_call p (takes buffer) = after_take p (length buffer)
after_call p closes_read = after_close_read p
after_call p closes_write = after_close_write p

-- the bytes of xs that the pipe took, by the result of their put
abbrev pub told_put : Put → List ℕ → List ℕ
told_put (Took n) xs = take n xs
told_put Full xs = []
told_put Closed xs = []

-- the bytes of the buffer that a take got, by its result
abbrev pub told_taken : Take → List ℕ → List ℕ
told_taken (Got n) buffer = take n buffer
told_taken Empty buffer = []
told_taken End buffer = []

-- what a call put, by its result
abbrev pub put_by : PipeState → PipeCall → List ℕ
put_by p (puts xs) = told_put (put_answer p xs) xs
put_by p (takes buffer) = []
put_by p closes_read = []
put_by p closes_write = []

-- what a call took, by its result and the buffer after it
abbrev pub taken_by : PipeState → PipeCall → List ℕ
taken_by p (puts xs) = []
taken_by p (takes buffer) = told_taken (take_answer p (length buffer)) (filled p buffer)
taken_by p closes_read = []
taken_by p closes_write = []

-- the pipe after all the calls
abbrev pub after_calls : PipeState → List PipeCall → PipeState
after_calls p [] = p
after_calls p (c ∷ cs) = after_calls (after_call p c) cs

-- what all the calls put
abbrev pub all_put : PipeState → List PipeCall → List ℕ
all_put p [] = []
all_put p (c ∷ cs) = put_by p c ++ all_put (after_call p c) cs

-- what all the calls took
abbrev pub all_taken : PipeState → List PipeCall → List ℕ
all_taken p [] = []
all_taken p (c ∷ cs) = taken_by p c ++ all_taken (after_call p c) cs
