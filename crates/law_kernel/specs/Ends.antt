-- The ends of pipes: one is open exactly while some descriptor holds it (`pipeclose` of `kernel/pipe.c`, `fileclose` of `kernel/file.c`).
use Rattle.std.specs.Prelude.{◌≡◌, ⊤, ℕ, Bool, false, ◌==◌, [], ◌∷◌, Option, Some, None, count_by}
use Rattle.fd_table.specs.declared.names.Object.{Object}
use Rattle.fd_table.specs.declared.names.Object.TheVariants.{Input, Out, Diag, File, PipeRead, PipeWrite}
use Rattle.fd_table.specs.Entries.{Entries, OpenFile}
use Rattle.byte_pipe.specs.PipeState.{PipeState}
use Rattle.proc_table.specs.Slots.{tally}
use Rattle.kernel_model.specs.Pipes.{Pipes, pipe_of}

-- the object is the read end, or the write end, of the pipe of that name
abbrev pub reads_pipe : ℕ → Object → Bool
reads_pipe id Input = false
reads_pipe id Out = false
reads_pipe id Diag = false
reads_pipe id (File name mode) = false
reads_pipe id (PipeRead other) = id == other
reads_pipe id (PipeWrite other) = false

abbrev pub writes_pipe : ℕ → Object → Bool
writes_pipe id Input = false
writes_pipe id Out = false
writes_pipe id Diag = false
writes_pipe id (File name mode) = false
writes_pipe id (PipeRead other) = false
writes_pipe id (PipeWrite other) = id == other

-- an entry has an object open that passes the test; a free one has none
abbrev pub has_object : (Object → Bool) → Option OpenFile → Bool
has_object test None = false
has_object test (Some f) = test f.object

-- an end of a pipe, if there is one, is open
abbrev pub read_end_open : Option PipeState → Bool
read_end_open None = false
read_end_open (Some p) = p.reader

abbrev pub write_end_open : Option PipeState → Bool
write_end_open None = false
write_end_open (Some p) = p.writer

-- no two pipes have one name
abbrev pub AreApart : Pipes → Type 0
AreApart [] = ⊤
AreApart (p ∷ rest) = (pipe_of rest p.0 ≡ None) × AreApart rest

-- one entry is each open end of a pipe, and none a closed one
pub record EndsAgree (entries : Entries) (pipes : Pipes) : Type 0 where
  pub readers : (id : ℕ) → count_by (has_object (reads_pipe id)) entries ≡ tally (read_end_open (pipe_of pipes id))
  pub writers : (id : ℕ) → count_by (has_object (writes_pipe id)) entries ≡ tally (write_end_open (pipe_of pipes id))
  pub apart : AreApart pipes
