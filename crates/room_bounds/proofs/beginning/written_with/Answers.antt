use Rattle.std.proofs.Common.{subst}
use Rattle.script_load.specs.Line.{line_of}
use Rattle.room_bounds.specs.Needs.{IsWritten}
use Rattle.room_bounds.proofs.Beginnings.{written_with, too_many}
use Rattle.room_bounds.proofs.beginning.written_with.Goals as goal

pub returns-in-Some : goal.returns-in-Some
returns-in-Some g c lines before =
    let a = c.args in
    let some = subst (IsWritten lines a.stdin.now a.files.now) c.in-Some.is before in
    written_with (line_of a.line.now) lines a.stdin.now a.files.now c.in-Some.written c.grown_after.result some.0 c.grown_after.ensures

pub returns-in_default-2 : goal.returns-in_default-2
returns-in_default-2 g c lines before =
    let a = c.args in
    too_many (line_of a.line.now) lines a.stdin.now a.files.now (subst (IsWritten lines a.stdin.now a.files.now) c.in_default.is before)
