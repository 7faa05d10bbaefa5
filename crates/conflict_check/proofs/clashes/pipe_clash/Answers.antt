use Rattle.std.proofs.Common.{sym, ◌∙◌}
use Rattle.sh_tree.specs.Tree.{tree_of}
use Rattle.conflict_check.proofs.Sharing.{no_pairs, told_none, told_some}
use Rattle.conflict_check.proofs.clashes.pipe_clash.Goals as goal

pub returns-then-share_a_name-clause-none : goal.returns-then-share_a_name-clause-none
returns-then-share_a_name-clause-none g c =
    told_none (tree_of c.args.left.now) (tree_of c.args.right.now) c.first_shared.result c.first_shared.ensures (sym c.share_a_name.ensures ∙ c.if-share_a_name.true)

pub returns-then-share_a_name-clause-some : goal.returns-then-share_a_name-clause-some
returns-then-share_a_name-clause-some g c =
    told_some (tree_of c.args.left.now) (tree_of c.args.right.now) c.first_shared.result c.first_shared.ensures

pub returns-else-share_a_name-clause-none : goal.returns-else-share_a_name-clause-none
returns-else-share_a_name-clause-none g c =
    no_pairs (tree_of c.args.left.now) (tree_of c.args.right.now) (sym c.share_a_name.ensures ∙ c.if-share_a_name.false)
