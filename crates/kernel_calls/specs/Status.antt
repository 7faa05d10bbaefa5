-- How full a pipe is, and which of its ends are open.
use Rattle.std.specs.Prelude.{length}
use Rattle.byte_pipe.specs.PipeState.{PipeState}
use Rattle.kernel_calls.specs.declared.status.PipeStatus.{PipeStatus}

-- the status of a pipe
abbrev pub status_of : PipeState → PipeStatus
status_of p = record { held = length p.bytes; reader_open = p.reader; writer_open = p.writer }
