use Rattle.std.proofs.Common.{◌≡◌, ◌++◌}
use Rattle.std.specs.Prelude.{map}
use Rattle.plain_run.proofs.ordered.in_order.Given as goal

-- the names of the keys that are left complete the list
abbrev pub invariant-loop-name : goal.invariant-loop-name
invariant-loop-name g l = l.list.items ++ map (λ key. key.items) l.name-iterator ≡ map (λ key. key.items) l.initial.name-iterator
