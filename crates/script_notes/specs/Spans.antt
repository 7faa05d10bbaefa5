-- Places of a line.
use Rattle.std.specs.Prelude.{◌≤◌, ℕ, List, [], ◌∷◌, length}
use Rattle.mem_files.specs.Name.{Bytes}
use Rattle.script_notes.specs.declared.span.Span.{Span}

-- they stand in order, apart and inside the line, from this byte on
abbrev pub AreSpansFrom : Bytes → ℕ → List Span → Type 0
AreSpansFrom text from [] = Unit {0}
AreSpansFrom text from (span ∷ spans) =
    (from ≤ span.first) × (span.first ≤ span.past) × (span.past ≤ length text) × AreSpansFrom text span.past spans
