use Rattle.std.proofs.Common.{◌≡◌, ◌++◌, length, map}
use Rattle.std.specs.Prelude.{string_bytes}
use Rattle.dead_lines.specs.Hints.{hint_of}
use Rattle.dead_lines.proofs.hints.add_hints.Given as goal

-- the sentences of the numbers that are left complete those of all
abbrev pub invariant-loop-number : goal.invariant-loop-number
invariant-loop-number l = map string_bytes l.hints.items ++ map hint_of l.rest ≡ map string_bytes l.fn.hints.items ++ map hint_of l.numbers

abbrev pub decreases-loop-number : goal.decreases-loop-number
decreases-loop-number l = length l.rest
