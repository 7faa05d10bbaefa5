-- Calls that write, and states that hold, no more bytes than one call moves.
use Rattle.std.specs.Prelude.{◌≤◌, length}
use Rattle.user_calls.specs.Limits.{block_size}
use Rattle.user_calls.specs.declared.calls.Call.{Call}
use Rattle.user_calls.specs.declared.calls.Call.TheVariants.{Fork, Exec, Exit, Wait, MakePipe, Read, Write, OpenFile, Close, Dup}
use Rattle.user_progs.specs.State.{Tee, tee_opens, tee_reads, tee_writes, tee_gives, State, begins, echo_word, echo_space, opens, works, closes, tees, told, ended}

abbrev pub WritesBlock : Call → Type 0
WritesBlock Fork = Unit {0}
WritesBlock (Exec is_known) = Unit {0}
WritesBlock Exit = Unit {0}
WritesBlock Wait = Unit {0}
WritesBlock MakePipe = Unit {0}
WritesBlock (Read fd most) = Unit {0}
WritesBlock (Write fd bytes) = length bytes ≤ block_size
WritesBlock (OpenFile name mode) = Unit {0}
WritesBlock (Close fd) = Unit {0}
WritesBlock (Dup fd) = Unit {0}

-- tee holds the bytes that it read until each of its files has them
abbrev pub TeeHoldsBlock : Tee → Type 0
TeeHoldsBlock (tee_opens fds name later) = Unit {0}
TeeHoldsBlock (tee_reads fds) = Unit {0}
TeeHoldsBlock (tee_writes fds bytes) = length bytes ≤ block_size
TeeHoldsBlock (tee_gives fds at bytes) = length bytes ≤ block_size

abbrev pub HoldsBlock : State → Type 0
HoldsBlock (begins program arguments) = Unit {0}
HoldsBlock (echo_word later) = Unit {0}
HoldsBlock (echo_space later) = Unit {0}
HoldsBlock (opens filter name later) = Unit {0}
HoldsBlock (works work source) = Unit {0}
HoldsBlock (closes filter later) = Unit {0}
HoldsBlock (tees tee) = TeeHoldsBlock tee
HoldsBlock told = Unit {0}
HoldsBlock ended = Unit {0}
