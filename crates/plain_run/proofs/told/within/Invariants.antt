use Rattle.std.proofs.Common.{◌≡◌, ◌++◌}
use Rattle.std.specs.Vec.Iter.{into_iter_items}
use Rattle.plain_run.specs.Told.{within}
use Rattle.plain_run.proofs.told.within.Given as goal

-- the reasons of the names that are left complete the list
abbrev pub invariant-loop-name : goal.invariant-loop-name
invariant-loop-name g l = l.reasons.items ++ within l.line (into_iter_items l.name-iterator) ≡ within l.line l.fn.names.items
