use Rattle.std.proofs.Common.{◌≡◌, ◌++◌}
use Rattle.mem_files.specs.Name.{Bytes}
use Rattle.script_mends.specs.Lines.{BeginsLine, ends_in}
use Rattle.script_mends.proofs.lines.behind_lines.Given as goal

-- what is left stands behind so many lines
abbrev pub invariant-loop-line : goal.invariant-loop-line
invariant-loop-line l = (before : Bytes) × (l.bytes ≡ before ++ l.rest) × (ends_in before ≡ l._line) × BeginsLine before
