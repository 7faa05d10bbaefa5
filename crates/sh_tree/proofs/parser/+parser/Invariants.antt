use Rattle.std.proofs.Common.{◌+◌, ◌*◌, length}
use Rattle.sh_tree.proofs.parser.+parser.Given as goal

abbrev pub decreases-parse_line : goal.decreases-parse_line
decreases-parse_line g l = 4 * length l.tokens.now + 3

abbrev pub decreases-parse_pipe : goal.decreases-parse_pipe
decreases-parse_pipe g l = 4 * length l.tokens.now + 2

abbrev pub decreases-parse_exec : goal.decreases-parse_exec
decreases-parse_exec g l = 4 * length l.tokens.now + 1

abbrev pub decreases-parse_block : goal.decreases-parse_block
decreases-parse_block g l = 4 * length l.inside.now + 4
