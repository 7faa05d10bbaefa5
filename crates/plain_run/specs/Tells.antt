-- What a verdict says of a value, and how verdicts are combined.
use Rattle.std.specs.Prelude.{◌≡◌, Bool, List, [], ◌∷◌, ◌++◌, if◌then◌else◌}
use Rattle.std.specs.List.{filter}
use Rattle.sh_tree.specs.Tree.{Tree}
use Rattle.mem_files.specs.Name.{Name}
use Rattle.prog_parts.specs.NameSets.{among}
use Rattle.conflict_check.specs.Names.{names}
use Rattle.conflict_check.specs.Occurrences.{written}
use Rattle.meaning_model.specs.Value.{Value}

-- whether the value is loose, and its soft names
pub record Tells (value : Value) (is_loose : Bool) (names : List Name) : Type 0 where
  pub loose : is_loose ≡ value.loose
  pub soft : (name : Name) → among names name ≡ value.soft name

-- a name where it is meant, else none
abbrev pub only_if : Bool → Name → List Name
only_if is_meant name = if is_meant then name ∷ [] else []

-- of two sides, the names that are named again: those of each, and the soft ones of one that the other names
abbrev pub all_again : Tree → List Name → List Name → Tree → List Name → List Name → List Name
all_again left first soft right second later = ((first ++ second) ++ filter (names right) soft) ++ filter (names left) later

-- soft names, and where the pipe is cut what its left side writes
abbrev pub with_lost : Bool → List Name → Tree → List Name
with_lost is_cut soft left = if is_cut then soft ++ written left else soft
