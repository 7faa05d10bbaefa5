use Rattle.std.proofs.Common.{length, subst}
use Rattle.mem_files.specs.Files.{files}
use Rattle.room_bounds.specs.CappedGrowth.{IsCapped}
use Rattle.room_bounds.specs.Growth.{grown_where, to_files}
use Rattle.room_bounds.proofs.growth.to_files_after.Goals as goal

pub returns : goal.returns
returns g c =
    subst (λ lines. IsCapped (to_files lines c.args.stdin.now (grown_where lines (files c.args.store.now) c.args.more)) c.lines_to_files.result) c.as_slice.ensures
    (c.lines_to_files.ensures (length c.args.stdin.now) c.capped.ensures)
