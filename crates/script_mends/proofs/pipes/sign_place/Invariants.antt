use Rattle.std.proofs.Common.{◌≡◌, ◌+◌, ◌≤◌, length}
use Rattle.script_mends.specs.Mends.{sign_from}
use Rattle.script_mends.proofs.pipes.sign_place.Given as goal

-- the first sign is that of what is left, behind so many bytes
abbrev pub invariant-loop-byte : goal.invariant-loop-byte
invariant-loop-byte l = record {
  same : sign_from l.signs l.count l.depth l.rest ≡ sign_from l.signs 0 0 l.text;
  counted : l.count + length l.rest ≡ length l.text;
  opened : l.depth ≤ l.count;
}

abbrev pub decreases-loop-byte : goal.decreases-loop-byte
decreases-loop-byte l = length l.rest
