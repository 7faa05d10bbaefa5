use Rattle.room_bounds.proofs.written.of_list.Goals as goal

pub returns : goal.returns
returns c l r n L left right = record {
  to_files = c.sum.ensures _ _ left.to_files right.to_files;
  to_output = c.sum-2.ensures _ _ left.to_output right.to_output;
  to_both = c.sum-3.ensures _ _ left.to_both right.to_both;
}
