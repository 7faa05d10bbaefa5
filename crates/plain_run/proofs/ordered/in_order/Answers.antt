-- The list has the names of the set's keys, in their order.
use Rattle.std.proofs.Common.{◌∙◌, sym, ap, subst}
use Rattle.std.specs.List.Sorted.{IsStrictlySortedBy}
use Rattle.mem_files.specs.Name.{name_cmp}
use Rattle.prog_parts.specs.NameSets.{among}
use Rattle.plain_run.proofs.NameSets.{sorted_items, all_listed}
use Rattle.plain_run.proofs.ordered.in_order.Goals as goal

pub returns-clause-ordered : goal.returns-clause-ordered
returns-clause-ordered g c =
    let keys = c.in_ok-set.set.keys in
    let begun = c.into_iter-name-iterator.ensures.into_iter_gives in
    let all = all_listed (λ key. key.items) c.loop-name.list.items c.loop-name.name-iterator c.into_iter-name-iterator.result keys c.in-None.ensures.steps.0 c.loop-name.invariant begun.0 in
    subst (IsStrictlySortedBy name_cmp) (sym all) (sorted_items (λ key. key.items) keys begun.4)

pub returns-clause-names : goal.returns-clause-names
returns-clause-names g c = λ name.
    let keys = c.in_ok-set.set.keys in
    let begun = c.into_iter-name-iterator.ensures.into_iter_gives in
    let all = all_listed (λ key. key.items) c.loop-name.list.items c.loop-name.name-iterator c.into_iter-name-iterator.result keys c.in-None.ensures.steps.0 c.loop-name.invariant begun.0 in
    ap (λ ns. among ns name) all ∙ c.in_ok-set.ensures name
