-- What was read so far is the beginning of what the reader gives, and within the limit; each round reads a byte or more.
use Rattle.std.proofs.Common.{◌≤◌, length, ◌-◌}
use Rattle.std.specs.Io.KnownBytes.{Consumes}
use Rattle.xvsh_read.proofs.collecting.read_all.Given as goal

abbrev pub invariant-loop-count : goal.invariant-loop-count
invariant-loop-count g l =
    (length l.bytes.items ≤ l.limit) × Consumes (g.R.Read.remaining l.initial.reader) (g.R.Read.remaining l.reader) l.bytes.items

abbrev pub decreases-loop-count : goal.decreases-loop-count
decreases-loop-count g l = l.limit - length l.bytes.items
