use Rattle.std.proofs.Common.{◌≡◌, ◌++◌, length}
use Rattle.prog_parts.specs.Grep.{grep_out, untested}
use Rattle.plain_run.specs.Gives.{Extends}
use Rattle.plain_run.proofs.grep.grep_lines.Given as goal

-- the lines that are left complete what is written, and what follows the tested ones is the same
abbrev pub invariant-loop-line : goal.invariant-loop-line
invariant-loop-line g l =
    (l.out.items ++ grep_out l.pattern l.rest ≡ l.fn.out.items ++ grep_out l.pattern l.input)
    × (untested l.rest ≡ untested l.input)
    × Extends l.fn.out.items l.out.items

abbrev pub decreases-loop-line : goal.decreases-loop-line
decreases-loop-line g l = length l.rest
