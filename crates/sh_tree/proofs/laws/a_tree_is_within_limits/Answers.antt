use Rattle.sh_tree.proofs.FewWords.{few_words}
use Rattle.sh_tree.proofs.ShortTree.{short_tree}
use Rattle.sh_tree.proofs.laws.a_tree_is_within_limits.Goals as goal

pub returns-clause-short : goal.returns-clause-short
returns-clause-short c line t fits has = short_tree line t fits has

pub returns-clause-few : goal.returns-clause-few
returns-clause-few c line t has = few_words line t has
