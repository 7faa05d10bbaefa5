-- How many nodes a tree has, by which the run of one ends.
use Rattle.std.proofs.Common.{ℕ, ◌+◌}
use Rattle.sh_tree.specs.Tree.{Tree, exec, redir, pipe, list, back}

abbrev pub nodes : Tree → ℕ
nodes (exec words) = 1
nodes (redir mode name body) = 1 + nodes body
nodes (pipe left right) = 1 + nodes left + nodes right
nodes (list left right) = 1 + nodes left + nodes right
nodes (back body) = 1 + nodes body
