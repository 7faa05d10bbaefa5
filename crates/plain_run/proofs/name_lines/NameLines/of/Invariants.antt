use Rattle.std.proofs.Common.{List, ℕ}
use Rattle.plain_run.specs.Spans.{Reaches, has_at, span_of}
use Rattle.plain_run.proofs.name_lines.NameLines.of.Given as goal

-- the spans of the lines so far
abbrev pub invariant-loop-at : goal.invariant-loop-at
invariant-loop-at g l = (name : List ℕ) → Reaches (has_at l.lines name) l.at (span_of l.index name)
