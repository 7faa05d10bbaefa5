use Rattle.std.proofs.Common.{◌≡◌, List, ℕ, take}
use Rattle.prog_parts.specs.NameSets.{among}
use Rattle.plain_run.specs.Spans.{span_of, reached}
use Rattle.plain_run.proofs.name_lines.NameLines.reach_all.Given as goal

-- the spans of the names so far reach to the line
abbrev pub invariant-loop-name : goal.invariant-loop-name
invariant-loop-name g l = (other : List ℕ) → span_of l.self other ≡ reached (among (take l.name-index l.names) other) l.line (span_of l.fn.self other)
