-- How many bytes a pipe holds.
use Rattle.std.specs.Prelude.{ℕ}

-- the most bytes that a pipe holds (`PIPESIZE` of `kernel/pipe.c`)
abbrev pub pipe_size : ℕ
pipe_size = 512
