use Rattle.room_bounds.proofs.behind.of_list.Goals as goal

pub returns : goal.returns
returns c l r left right = record {
  at_once = c.larger.ensures _ _ (c.one_more.ensures _ left.at_once) (c.sum.ensures _ _ left.behind right.at_once);
  behind = c.sum-2.ensures _ _ left.behind right.behind;
}
