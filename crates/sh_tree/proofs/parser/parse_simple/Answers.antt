use Rattle.std.proofs.lemmas.Result.{IfOk-weaker}
use Rattle.sh_tree.specs.Reading.{may_follow_command, Reads, Wraps}
use Rattle.sh_tree.specs.Grammar.{IsExec}
use Rattle.sh_tree.specs.Tree.{tree_of, exec}
use Rattle.sh_tree.proofs.Descent.{simple_read}
use Rattle.sh_tree.proofs.parser.parse_simple.Goals as goal

pub returns : goal.returns
returns g c =
    IfOk-weaker c.parse_redirections.result
    (λ r. Reads (Wraps (exec c.in_ok-words.words)) may_follow_command c.args.line.now c.args.tokens.now r.1.now (tree_of r.0))
    (λ r. Reads IsExec may_follow_command c.args.line.now c.args.tokens.now r.1.now (tree_of r.0))
    (λ r read. simple_read c.args.line.now c.args.tokens.now r.1.now c.in_ok-words.words (tree_of r.0) c.requires c.in_ok-words.ensures read)
    c.parse_redirections.ensures
