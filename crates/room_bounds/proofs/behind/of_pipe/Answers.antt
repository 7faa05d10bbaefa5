use Rattle.room_bounds.proofs.behind.of_pipe.Goals as goal

pub returns : goal.returns
returns c l r left right = record { at_once = c.sum_with.ensures _ _ left.at_once right.at_once; behind = c.sum.ensures _ _ left.behind right.behind }
