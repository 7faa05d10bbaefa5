use Rattle.std.proofs.Common.{◌≡◌, true, false, rules}
use Rattle.script_load.specs.Limits.{is_small_line}
use Rattle.script_load.specs.Line.{line_of}
use Rattle.script_load.proofs.SmallLines.{first_large, small_more}
use Rattle.script_load.proofs.script.first_large.Goals as goal

pub returns-then-not-is_small-clause-some : goal.returns-then-not-is_small-clause-some
returns-then-not-is_small-clause-some g c =
    let large : is_small_line (line_of c.index-lines-i.result) ≡ false = search rules in
    first_large line_of c.args.lines.now c.loop-i.i c.index-lines-i.result c.loop-i-test.true c.index-lines-i.is c.loop-i.invariant large

pub loop-i-preserved : goal.loop-i-preserved
loop-i-preserved g c =
    let small : is_small_line (line_of c.index-lines-i.result) ≡ true = search rules in
    small_more line_of c.args.lines.now c.loop-i.i c.index-lines-i.result c.loop-i-test.true c.index-lines-i.is c.loop-i.invariant small
