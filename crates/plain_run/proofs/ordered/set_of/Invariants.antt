use Rattle.std.proofs.Common.{◌≡◌, List, ℕ, take}
use Rattle.std.specs.Prelude.{map}
use Rattle.prog_parts.specs.NameSets.{among}
use Rattle.plain_run.proofs.ordered.set_of.Given as goal

-- the set has the names so far
abbrev pub invariant-loop-name : goal.invariant-loop-name
invariant-loop-name g l = (name : List ℕ) → among (map (λ key. key.items) l.set.keys) name ≡ among (take l.name-index l.names) name
