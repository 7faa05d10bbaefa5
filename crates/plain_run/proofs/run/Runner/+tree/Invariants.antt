use Rattle.std.proofs.Common.{◌+◌, ◌*◌}
use Rattle.sh_tree.specs.Tree.{tree_of}
use Rattle.plain_run.proofs.TreeSize.{nodes}
use Rattle.plain_run.proofs.run.Runner.+tree.Given as goal

abbrev pub decreases-run_tree : goal.decreases-run_tree
decreases-run_tree g l = 3 * nodes (tree_of l.tree.now)

abbrev pub decreases-run_from_file : goal.decreases-run_from_file
decreases-run_from_file g l = 3 * nodes (tree_of l.body.now) + 1

abbrev pub decreases-run_into_file : goal.decreases-run_into_file
decreases-run_into_file g l = 3 * nodes (tree_of l.body.now) + 1

abbrev pub decreases-run_pipe : goal.decreases-run_pipe
decreases-run_pipe g l = 3 * (nodes (tree_of l.left.now) + nodes (tree_of l.right.now)) + 2

abbrev pub decreases-run_after_cat : goal.decreases-run_after_cat
decreases-run_after_cat g l = 3 * nodes (tree_of l.right.now) + 1

abbrev pub decreases-run_sides : goal.decreases-run_sides
decreases-run_sides g l = 3 * (nodes (tree_of l.left.now) + nodes (tree_of l.right.now)) + 1

abbrev pub decreases-run_list : goal.decreases-run_list
decreases-run_list g l = 3 * (nodes (tree_of l.left.now) + nodes (tree_of l.right.now)) + 1
