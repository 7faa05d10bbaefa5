-- Which lines name a file: the first and the last of them, counted from 0. No public clause cites this module.
use Rattle.std.specs.Prelude.{◌≡◌, ◌<◌, ◌≤◌, ℕ, nat_lt, Bool, true, false, List, length, map, Option, Some, None, if◌then◌else◌}
use Rattle.std.specs.BTreeMap.{get_by}
use Rattle.std.specs.Ordering.{nat_cmp}
use Rattle.std.specs.Cmp.Lexicographic.{slice_cmp}
use Rattle.prog_parts.specs.NameSets.{Names}
use Rattle.conflict_check.specs.Names.{names}
use Rattle.mem_files.specs.Name.{Name}
use Rattle.script_load.specs.declared.line.Line.{Line}
use Rattle.script_load.specs.Line.{line_of}
use Rattle.meaning_model.specs.Meaning.{script_tree}
use Rattle.plain_run.specs.Reasons.{tree_at}
use Rattle.plain_run.specs.declared.name_lines.NameLines.{NameLines}
use Rattle.plain_run.specs.declared.name_lines.Span.{Span}

-- the names of lines
abbrev pub all_names : {B : _} → List (Line B) → Names
all_names lines name = names (script_tree (map line_of lines)) name

-- what is held of a name
abbrev pub span_of : {A : _} → NameLines A → Name → Option Span
span_of index name = get_by (λ key. slice_cmp nat_cmp name key.items) index.spans

-- a line more that has the name, not before any so far
abbrev pub reach : ℕ → Option Span → Span
reach line None = record { first = line; last = line }
reach line (Some span) = record { first = span.first; last = line }

-- a line more that has the name or not
abbrev pub reached : Bool → ℕ → Option Span → Option Span
reached false line span = span
reached true line span = Some (reach line span)

-- another line than this that has the name: the first that has it, or the last
abbrev pub other_line : ℕ → Option Span → Option ℕ
other_line line None = None
other_line line (Some span) = if nat_lt span.first line then Some span.first else (if nat_lt line span.last then Some span.last else None)

-- of the lines, counted from 0, those that have a name lie from the span's first to its last
pub record IsSpan (has : ℕ → Bool) (count : ℕ) (span : Span) : Type 0 where
  pub first : has span.first ≡ true
  pub last : has span.last ≡ true
  pub order : span.first ≤ span.last
  pub below : span.last < count
  pub each : (k : ℕ) → k < count → has k ≡ true → (span.first ≤ k) × (k ≤ span.last)

abbrev pub Reaches : (ℕ → Bool) → ℕ → Option Span → Type 0
Reaches has count None = (k : ℕ) → k < count → has k ≡ false
Reaches has count (Some span) = IsSpan has count span

-- whether the line at a place has the name; behind the last there is none
abbrev pub has_at : {B : _} → List (Line B) → Name → ℕ → Bool
has_at lines name k = names (tree_at (map line_of lines) k) name

-- the span of each name
abbrev pub AreSpans : {A B : _} → List (Line B) → NameLines A → Type 0
AreSpans lines index = (name : Name) → Reaches (has_at lines name) (length lines) (span_of index name)
