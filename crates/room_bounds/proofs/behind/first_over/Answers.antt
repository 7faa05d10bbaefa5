use Rattle.std.proofs.Common.{◌≡◌, true}
use Rattle.room_bounds.proofs.behind.first_over.Goals as goal

pub returns-else-not-is_within-2-clause-none : goal.returns-else-not-is_within-2-clause-none
returns-else-not-is_within-2-clause-none c lines behind =
    let one : c.is_within.result ≡ true = cc in
    let two : c.is_within-else-not-is_within.result ≡ true = cc in
    record {
      processes = c.is_within.ensures.within _ behind.processes one;
      descriptors = c.is_within-else-not-is_within.ensures.within _ behind.descriptors two;
    }
