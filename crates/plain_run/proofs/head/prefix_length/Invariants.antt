use Rattle.std.proofs.Common.{◌≡◌, ◌++◌, drop, take}
use Rattle.prog_parts.specs.Head.{first_lines}
use Rattle.plain_run.proofs.head.prefix_length.Given as goal

-- the lines that are left to take complete those that were passed
abbrev pub invariant-loop-i : goal.invariant-loop-i
invariant-loop-i l = take l.i l.bytes ++ first_lines l.left (drop l.i l.bytes) ≡ first_lines l.count l.bytes
