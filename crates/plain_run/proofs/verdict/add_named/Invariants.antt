use Rattle.std.proofs.Common.{◌≡◌, ◌++◌, take}
use Rattle.std.specs.List.{filter}
use Rattle.sh_tree.specs.Tree.{tree_of}
use Rattle.conflict_check.specs.Names.{names}
use Rattle.plain_run.proofs.verdict.add_named.Given as goal

-- those of the words so far were added
abbrev pub invariant-loop-word : goal.invariant-loop-word
invariant-loop-word g l = l.list.items ≡ l.fn.list.items ++ filter (names (tree_of l.tree)) (take l.word-index l.words)
