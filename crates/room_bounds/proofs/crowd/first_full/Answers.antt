use Rattle.std.proofs.Common.{◌≡◌, true}
use Rattle.room_bounds.proofs.crowd.first_full.Goals as goal

pub returns-else-not-is_within-3-clause-none : goal.returns-else-not-is_within-3-clause-none
returns-else-not-is_within-3-clause-none c lines held =
    let one : c.is_within.result ≡ true = cc in
    let two : c.is_within-else-not-is_within.result ≡ true = cc in
    let three : c.is_within-else-not-is_within-2.result ≡ true = cc in
    record {
      processes = c.is_within.ensures.within _ held.processes one;
      entries = c.is_within-else-not-is_within.ensures.within _ held.entries two;
      descriptors = c.is_within-else-not-is_within-2.ensures.within _ held.descriptors three;
    }
