use Rattle.std.proofs.Common.{sym, subst}
use Rattle.std.specs.Prelude.{map}
use Rattle.std.specs.List.Sorted.{IsPermutation}
use Rattle.std.proofs.lemmas.List.Sorted.{IsPermutation-map}
use Rattle.script_outcomes.proofs.sorting.sorted.Goals as goal

pub returns : goal.returns
returns c =
    subst (λ items. IsPermutation items c.in_ok-sorted.sorted.items) c.in_ok-keyed.ensures
    (subst (IsPermutation (map (λ k. k.outcome) c.in_ok-keyed.keyed.items)) (sym c.in_ok-sorted.ensures)
    (IsPermutation-map (λ k. k.outcome) c.in_ok-keyed.keyed.items c.sort_by.new.self.items c.sort_by.ensures.permutation))
