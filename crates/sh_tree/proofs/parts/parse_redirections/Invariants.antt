use Rattle.std.proofs.Common.{◌≤◌, length}
use Rattle.sh_tree.specs.Lexeme.{lexemes}
use Rattle.sh_tree.specs.Reading.{IsInParts, Wraps}
use Rattle.sh_tree.specs.Tree.{tree_of}
use Rattle.sh_tree.proofs.parts.parse_redirections.Given as goal

-- the command is wrapped in the redirections down to the rest
abbrev pub invariant-loop-part : goal.invariant-loop-part
invariant-loop-part g l = record {
  here : IsInParts l.line l.rest;
  wraps : Wraps (tree_of l.fn.command) (lexemes l.line l.tokens) (lexemes l.line l.rest) (tree_of l.command);
  fewer : length l.rest ≤ length l.tokens;
}

abbrev pub decreases-loop-part : goal.decreases-loop-part
decreases-loop-part g l = length l.rest
