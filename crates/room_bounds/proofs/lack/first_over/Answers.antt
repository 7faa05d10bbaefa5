use Rattle.std.proofs.Common.{◌≡◌, true}
use Rattle.room_bounds.proofs.Rooms.{roomy}
use Rattle.room_bounds.proofs.lack.first_over.Goals as goal

pub returns-else-not-is_within-5-clause-none : goal.returns-else-not-is_within-5-clause-none
returns-else-not-is_within-5-clause-none c lines input files room =
    let one : c.is_within.result ≡ true = cc in
    let two : c.is_within-else-not-is_within.result ≡ true = cc in
    let three : c.is_within-else-not-is_within-2.result ≡ true = cc in
    let four : c.is_within-else-not-is_within-3.result ≡ true = cc in
    let five : c.is_within-else-not-is_within-4.result ≡ true = cc in
    roomy lines input files
    (c.is_within.ensures.within _ room.processes one)
    (c.is_within-else-not-is_within.ensures.within _ room.entries two)
    (c.is_within-else-not-is_within-2.ensures.within _ room.descriptors three)
    (c.is_within-else-not-is_within-3.ensures.within _ room.files four)
    room.size.0 room.size.1
    (c.is_within-else-not-is_within-4.ensures.within _ room.size.2 five)
