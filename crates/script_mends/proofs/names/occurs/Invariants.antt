use Rattle.std.proofs.Common.{◌≡◌, length}
use Rattle.script_mends.specs.Mended.{occurs}
use Rattle.script_mends.proofs.names.occurs.Given as goal

-- the name stands in what is left, if it stands anywhere
abbrev pub invariant-loop-byte : goal.invariant-loop-byte
invariant-loop-byte l = occurs l.name l.rest ≡ occurs l.name l.text

abbrev pub decreases-loop-byte : goal.decreases-loop-byte
decreases-loop-byte l = length l.rest
