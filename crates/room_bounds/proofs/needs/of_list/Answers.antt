use Rattle.std.proofs.Common.{◌≡◌, ◌+◌, ◌++◌, length, subst, arith}
use Rattle.std.proofs.lemmas.List.{length-append}
use Rattle.room_model.specs.Files.{names_written}
use Rattle.room_bounds.specs.Capped.{IsCapped}
use Rattle.room_bounds.proofs.needs.of_list.Goals as goal

pub returns : goal.returns
returns c l r left right =
    let names : 0 + length (names_written l) + length (names_written r) ≡ length (names_written l ++ names_written r) = omega (arith, length-append (names_written l) (names_written r)) in
    record {
      processes = c.larger.ensures _ _ (c.one_more.ensures _ left.processes) right.processes;
      entries = c.larger-2.ensures _ _ left.entries right.entries;
      descriptors = c.larger-3.ensures _ _ left.descriptors right.descriptors;
      names = subst (λ n. IsCapped n c.sum_with.result) names (c.sum_with.ensures _ _ left.names right.names);
    }
