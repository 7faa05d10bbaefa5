use Rattle.std.proofs.Common.{sym, subst}
use Rattle.sh_lexer.specs.Tokens.{IsTokenList}
use Rattle.sh_tree.specs.Tree.{tree_of}
use Rattle.sh_tree.proofs.Descent.{each_token, whole_line}
use Rattle.sh_tree.proofs.parser.parse.Goals as goal

pub parse_line-requires : goal.parse_line-requires
parse_line-requires g c =
    let cut = subst (IsTokenList c.args.line.now) (sym c.as_slice-list.ensures.value) c.in_ok-all.ensures in
    record { depth = 0; ready = record { tokens = each_token c.args.line.now 0 c.as_slice-list.result.now cut; accepted = c.in_ok-check.ensures.accepted } }

pub returns-clause-tree : goal.returns-clause-tree
returns-clause-tree g c =
    let cut = subst (IsTokenList c.args.line.now) (sym c.as_slice-list.ensures.value) c.in_ok-all.ensures in
    (c.as_slice-list.result.now, cut, whole_line c.args.line.now c.as_slice-list.result.now c.in_ok-tree.field-0-1.now (tree_of c.in_ok-tree.tree) c.in_ok-check.ensures.accepted c.in_ok-tree.ensures)
