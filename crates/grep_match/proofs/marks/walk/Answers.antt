use Rattle.std.proofs.Common.{◌∙◌, refl, arith}
use Rattle.grep_match.proofs.Passing.{walk_one, walk_none, walk_star, walk_end, walk_done}
use Rattle.grep_match.proofs.marks.walk.Goals as goal

pub loop-item-preserved-in-Some-split_first : goal.loop-item-preserved-in-Some-split_first
loop-item-preserved-in-Some-split_first c = record {
  shorter = omega (arith, c.loop-item.invariant.shorter, c.in-Some-split_first.ensures.cases.1);
  same = walk_one c.in-One.byte c.in-Some.item c.loop-item.left.now c.in-Some.rest.now c.loop-item.unread.now c.in-Some-split_first.later.now c.in-Some-split_first.field-0-0.now
      c.loop-item.marks c.pass_one.new.marks _ (omega (arith, c.requires, c.loop-item.auto.marks, c.loop-item.invariant.shorter))
      c.in-Some.ensures.split c.in-One.is c.in-Some-split_first.ensures.cases.0 c.pass_one.ensures c.loop-item.invariant.same;
}

pub returns-in_default-split_first : goal.returns-in_default-split_first
returns-in_default-split_first c =
    walk_none c.in-One.byte c.in-Some.item c.loop-item.left.now c.in-Some.rest.now c.loop-item.unread.now c.loop-item.marks _
    c.in-Some.ensures.split c.in-One.is c.in_default-split_first.ensures.cases c.loop-item.invariant.same

pub loop-item-preserved : goal.loop-item-preserved
loop-item-preserved c = record {
  shorter = c.loop-item.invariant.shorter;
  same = walk_star c.in-Star.byte c.in-Some.item c.loop-item.left.now c.in-Some.rest.now c.loop-item.unread.now c.loop-item.marks c.pass_star.new.marks _
      (omega (arith, c.requires, c.loop-item.auto.marks, c.loop-item.invariant.shorter))
      c.in-Some.ensures.split c.in-Star.is c.pass_star.ensures c.loop-item.invariant.same;
}

pub returns-in-End : goal.returns-in-End
returns-in-End c =
    walk_end c.in-Some.item c.loop-item.left.now c.in-Some.rest.now c.loop-item.unread.now c.loop-item.marks _
    (omega (arith, c.requires, c.loop-item.auto.marks, c.loop-item.invariant.shorter))
    c.in-Some.ensures.split c.in-End.is (c.in-Some.ensures.last c.in-End.is) c.loop-item.invariant.same

pub returns : goal.returns
returns c =
    c.contains.ensures.value
    ∙ walk_done _ refl refl c.loop-item.left.now c.loop-item.unread.now c.loop-item.marks _
    (omega (arith, c.requires, c.loop-item.auto.marks, c.loop-item.invariant.shorter)) (c.in_default.ensures).none c.loop-item.invariant.same
