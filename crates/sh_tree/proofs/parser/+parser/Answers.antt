use Rattle.std.proofs.Common.{◌<◌, length, arith, rules}
use Rattle.std.proofs.lemmas.Result.{IfOk-weaker}
use Rattle.sh_tree.specs.Grammar.{IsExec}
use Rattle.sh_tree.specs.Reading.{may_follow_command, Reads, Wraps, IsBlockRest}
use Rattle.sh_tree.specs.Tree.{tree_of}
use Rattle.sh_tree.proofs.Descent.{after_pipe, line_alone, after_semi, line_then, pipe_alone, after_bar, pipe_then, inside_block, closes, redirections_after, block_read, exec_block, simple_begins}
use Rattle.sh_tree.proofs.parser.+parser.Goals as goal

pub parse_block-unreachable-requires : goal.parse_block-unreachable-requires
parse_block-unreachable-requires g t c =
    closes c.args.line.now c.args.inside.now c.in_ok-body.rest.now (tree_of c.in_ok-body.body) c.requires c.in_ok-body.ensures c.in_default.ensures

pub parse_block-parse_redirections-requires : goal.parse_block-parse_redirections-requires
parse_block-parse_redirections-requires g t c =
    redirections_after c.args.line.now c.args.inside.now c.in_ok-body.rest.now c.in-Some.after.now (tree_of c.in_ok-body.body) c.requires c.in_ok-body.ensures c.in-Some.ensures

pub parse_block-returns : goal.parse_block-returns
parse_block-returns g t c =
    IfOk-weaker c.parse_redirections.result
    (λ r. Reads (Wraps (tree_of c.in_ok-body.body)) may_follow_command c.args.line.now c.in-Some.after.now r.1.now (tree_of r.0))
    (λ r. Reads IsBlockRest may_follow_command c.args.line.now c.args.inside.now r.1.now (tree_of r.0))
    (λ r read. block_read c.args.line.now c.args.inside.now c.in_ok-body.rest.now c.in-Some.after.now r.1.now (tree_of c.in_ok-body.body) (tree_of r.0) c.requires c.in_ok-body.ensures c.in-Some.ensures read)
    c.parse_redirections.ensures

pub parse_exec-parse_block-requires : goal.parse_exec-parse_block-requires
parse_exec-parse_block-requires g t c κs within =
    let inside = inside_block c.args.line.now c.args.tokens.now c.in-Some.inside.now c.requires c.in-Some.ensures in
    let fewer : length c.in-Some.inside.now < length c.args.tokens.now = inside.1 in
    (omega (arith, fewer), (search rules, inside.0))

pub parse_exec-parse_simple-requires : goal.parse_exec-parse_simple-requires
parse_exec-parse_simple-requires g t c = simple_begins c.args.line.now c.args.tokens.now c.requires c.in-None.ensures

pub parse_exec-returns-in-Some : goal.parse_exec-returns-in-Some
parse_exec-returns-in-Some g t c =
    IfOk-weaker c.parse_block.result
    (λ r. Reads IsBlockRest may_follow_command c.args.line.now c.in-Some.inside.now r.1.now (tree_of r.0))
    (λ r. Reads IsExec may_follow_command c.args.line.now c.args.tokens.now r.1.now (tree_of r.0))
    (λ r read. exec_block c.args.line.now c.args.tokens.now c.in-Some.inside.now r.1.now (tree_of r.0) c.in-Some.ensures read)
    c.parse_block.ensures

pub parse_line-returns-in_default : goal.parse_line-returns-in_default
parse_line-returns-in_default g t c =
    let here = after_pipe c.args.line.now c.args.tokens.now c.in_ok-pipe.past_pipe.now (tree_of c.in_ok-pipe.pipe) c.requires c.in_ok-pipe.ensures in
    line_alone c.args.line.now c.args.tokens.now c.in_ok-pipe.past_pipe.now c.in_ok-left.rest.now (tree_of c.in_ok-pipe.pipe) (tree_of c.in_ok-left.left) c.in_ok-pipe.ensures (c.in_ok-left.ensures c.args.line.now here) c.in_default.ensures

pub parse_line-parse_line-requires : goal.parse_line-parse_line-requires
parse_line-parse_line-requires g t c κs within =
    let here = after_pipe c.args.line.now c.args.tokens.now c.in_ok-pipe.past_pipe.now (tree_of c.in_ok-pipe.pipe) c.requires c.in_ok-pipe.ensures in
    let later = after_semi c.args.line.now c.args.tokens.now c.in_ok-pipe.past_pipe.now c.in_ok-left.rest.now c.in-Some.after.now (tree_of c.in_ok-pipe.pipe) (tree_of c.in_ok-left.left) c.requires c.in_ok-pipe.ensures (c.in_ok-left.ensures c.args.line.now here) c.in-Some.ensures in
    let fewer : length c.in-Some.after.now < length c.args.tokens.now = later.1 in
    (omega (arith, fewer), (search rules, later.0))

pub parse_line-returns : goal.parse_line-returns
parse_line-returns g t c =
    let here = after_pipe c.args.line.now c.args.tokens.now c.in_ok-pipe.past_pipe.now (tree_of c.in_ok-pipe.pipe) c.requires c.in_ok-pipe.ensures in
    rw (c.in_ok-new.ensures.ok, c.in_ok-new-2.ensures.ok) (line_then c.args.line.now c.args.tokens.now c.in_ok-pipe.past_pipe.now c.in_ok-left.rest.now c.in-Some.after.now c.in_ok-right.past_line.now (tree_of c.in_ok-pipe.pipe) (tree_of c.in_ok-left.left) (tree_of c.in_ok-right.right) c.in_ok-pipe.ensures (c.in_ok-left.ensures c.args.line.now here) c.in-Some.ensures c.in_ok-right.ensures)

pub parse_pipe-returns-in_default : goal.parse_pipe-returns-in_default
parse_pipe-returns-in_default g t c =
    pipe_alone c.args.line.now c.args.tokens.now c.in_ok-left.rest.now (tree_of c.in_ok-left.left) c.in_ok-left.ensures c.in_default.ensures

pub parse_pipe-parse_pipe-requires : goal.parse_pipe-parse_pipe-requires
parse_pipe-parse_pipe-requires g t c κs within =
    let later = after_bar c.args.line.now c.args.tokens.now c.in_ok-left.rest.now c.in-Some.after.now (tree_of c.in_ok-left.left) c.requires c.in_ok-left.ensures c.in-Some.ensures in
    let fewer : length c.in-Some.after.now < length c.args.tokens.now = later.1 in
    (omega (arith, fewer), (search rules, later.0))

pub parse_pipe-returns : goal.parse_pipe-returns
parse_pipe-returns g t c =
    rw (c.in_ok-new.ensures.ok, c.in_ok-new-2.ensures.ok) (pipe_then c.args.line.now c.args.tokens.now c.in_ok-left.rest.now c.in-Some.after.now c.in_ok-right.past_pipe.now (tree_of c.in_ok-left.left) (tree_of c.in_ok-right.right) c.in_ok-left.ensures c.in-Some.ensures c.in_ok-right.ensures)
