use Rattle.std.proofs.Common.{subst}
use Rattle.script_load.specs.Line.{lines_of}
use Rattle.room_bounds.specs.Needs.{IsNeedOfLines}
use Rattle.room_bounds.proofs.room.room_of.Goals as goal

pub returns : goal.returns
returns g c =
    let a = c.args in
    c.room_with.ensures (lines_of a.script.now.lines) a.stdin.now a.store.now (subst (λ ls. IsNeedOfLines ls a.stdin.now a.store.now c.all_lines.result) c.as_slice.ensures c.all_lines.ensures) c.given_of.ensures
