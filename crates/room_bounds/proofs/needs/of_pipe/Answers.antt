use Rattle.std.proofs.Common.{◌≡◌, ◌+◌, ◌++◌, length, refl, subst, arith}
use Rattle.std.proofs.lemmas.List.{length-append}
use Rattle.room_model.specs.Files.{names_written}
use Rattle.room_bounds.specs.Capped.{IsCapped}
use Rattle.room_bounds.proofs.needs.of_pipe.Goals as goal

pub returns : goal.returns
returns c l r left right =
    let names : 0 + length (names_written l) + length (names_written r) ≡ length (names_written l ++ names_written r) = omega (arith, length-append (names_written l) (names_written r)) in
    record {
      processes = c.sum_with.ensures _ _ left.processes right.processes;
      entries = c.sum_with-2.ensures _ _ left.entries right.entries;
      descriptors = c.larger-2.ensures 5 _ (refl, omega arith) (c.larger.ensures _ _ left.descriptors right.descriptors);
      names = subst (λ n. IsCapped n c.sum_with-3.result) names (c.sum_with-3.ensures _ _ left.names right.names);
    }
