use Rattle.std.proofs.Common.{◌≡◌, ◌+◌, refl, subst, arith}
use Rattle.meaning_model.specs.Meaning.{script_tree}
use Rattle.room_model.specs.Entries.{most_entries}
use Rattle.room_bounds.specs.Capped.{IsCapped}
use Rattle.room_bounds.proofs.crowd.held_of.Goals as goal

pub returns : goal.returns
returns c lines needs =
    let three : 3 + 0 + most_entries (script_tree lines) ≡ 3 + most_entries (script_tree lines) = omega arith in
    record {
      processes = c.one_more.ensures _ needs.processes;
      entries = subst (λ n. IsCapped n c.sum_with.result) three (c.sum_with.ensures 0 _ (refl, omega arith) needs.entries);
      descriptors = needs.descriptors;
    }
