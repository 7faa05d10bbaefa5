use Rattle.std.proofs.Common.{◌≡◌, ◌<◌, true, false, length, arith, sym, ◌∙◌}
use Rattle.grade_verdicts.specs.Same.{named}
use Rattle.grade_verdicts.proofs.Sames.{at_place, one_more}
use Rattle.grade_verdicts.proofs.sameness.are_same_files.Goals as goal

apart : true ≡ false → ⊥
apart e = cc

pub returns-then-not-is_same_file : goal.returns-then-not-is_same_file
returns-then-not-is_same_file c =
    let one = c.args.one.now in
    let other = c.args.other.now in
    let inside : c.loop-i.i < length one = omega arith in
    let within : c.loop-i.i < length other = omega arith in (
      λ no. absurd (apart (sym no)),
      λ same. absurd (apart (sym (c.is_same_file.ensures.1 (at_place named one other c.loop-i.i c.index-one-i.result c.index-other-i.result inside within c.index-one-i.is c.index-other-i.is same)) ∙ c.if-not-is_same_file.true)),
    )

pub loop-i-preserved : goal.loop-i-preserved
loop-i-preserved c =
    let one = c.args.one.now in
    let other = c.args.other.now in
    let inside : c.loop-i.i < length one = omega arith in
    let within : c.loop-i.i < length other = omega arith in
    one_more named one other c.loop-i.i c.index-one-i.result c.index-other-i.result inside within c.index-one-i.is c.index-other-i.is c.loop-i.invariant (c.is_same_file.ensures.0 c.if-not-is_same_file.false)
