use Rattle.std.proofs.Common.{arith, ◌∙◌}
use Rattle.grep_match.proofs.Passing.{star_ends, star_stays}
use Rattle.grep_match.proofs.marks.pass_star.Goals as goal

pub returns-then-carried : goal.returns-then-carried
returns-then-carried c =
    star_ends c.args.byte c.loop-place.marks c.args.text.now c.loop-place.place (omega (arith, c.requires, c.loop-place.auto.marks)) (omega arith)
    ∙ (rw c.if-carried.true at c.loop-place.invariant)

pub returns-else-carried : goal.returns-else-carried
returns-else-carried c =
    star_stays c.args.byte c.loop-place.marks c.args.text.now c.loop-place.place (omega (arith, c.requires, c.loop-place.auto.marks)) (omega arith)
    ∙ (rw c.if-carried.false at c.loop-place.invariant)
