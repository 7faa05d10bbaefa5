-- How reasons are put together, line by line. No public clause cites this module.
use Rattle.std.specs.Prelude.{◌≡◌, ◌≢◌, ◌<◌, ℕ, ◌+◌, Bool, true, false, List, [], ◌∷◌, ◌++◌, map, length, Option, Some, None, if◌then◌else◌}
use Rattle.mem_files.specs.Name.{Name}
use Rattle.prog_parts.specs.NameSets.{among}
use Rattle.conflict_check.specs.declared.conflict.Clash.{Clash as FoundClash}
use Rattle.conflict_check.specs.Names.{names}
use Rattle.script_load.specs.declared.line.Line.{Line}
use Rattle.script_load.specs.Line.{line_of}
use Rattle.plain_run.specs.declared.reason.Reason.{Reason}
use Rattle.plain_run.specs.declared.reason.Reason.TheVariants.{Background, Clash, CutPipe, LooseInput}
use Rattle.plain_run.specs.Reasons.{tree_at}

-- the name is one of these, and another line than the one at this place names it
pub data IsBeside {A B : _} (lines : List (Line B)) (at : ℕ) (soft : List Name) : Reason A → Type 0 where
  is_beside : {other : ℕ} {name : Name} → other < length lines → other ≢ at → among soft name ≡ true → names (tree_at (map line_of lines) other) name ≡ true → IsBeside lines at soft (CutPipe (at + 1) name (other + 1))

-- the reason that another place names a name, if one does
abbrev pub beside_reason : {A : _} → ℕ → Name → Option ℕ → List (Reason A)
beside_reason line name None = []
beside_reason line name (Some other) = CutPipe line name (other + 1) ∷ []

-- a command of the line of this number runs behind &; and the line's first clash
abbrev pub background : {A : _} → ℕ → Bool → List (Reason A)
background line is_back = if is_back then Background line ∷ [] else []

abbrev pub clash_reason : {A : _} → ℕ → Option FoundClash → List (Reason A)
clash_reason line None = []
clash_reason line (Some found) = Clash line found.kind found.name.now ∷ []

-- these names are named again within the line of this number
abbrev pub within : {A : _} → ℕ → List Name → List (Reason A)
within line again = map (λ name. CutPipe line name line) again

-- the line's own input is used again
abbrev pub reused : {A : _} → ℕ → Bool → List (Reason A)
reused line reuses = if reuses then LooseInput line line ∷ [] else []

-- the line uses the input after the first one that is loose
abbrev pub used : {A : _} → Option ℕ → Bool → ℕ → List (Reason A)
used None uses line = []
used (Some loose) uses line = if uses then LooseInput loose line ∷ [] else []

-- the reasons of a line, with those that are beside it
abbrev pub line_reasons : {A : _} → ℕ → List Name → List (Reason A) → Bool → Option ℕ → Bool → List (Reason A)
line_reasons line again beside reuses loose uses = ((within line again ++ beside) ++ reused line reuses) ++ used loose uses line

-- the first loose line, once this one was looked at
abbrev pub first_loose : Option ℕ → Bool → ℕ → Option ℕ
first_loose (Some first) is_loose line = Some first
first_loose None is_loose line = if is_loose then Some line else None

abbrev pub is_some : Option ℕ → Bool
is_some (Some line) = true
is_some None = false
