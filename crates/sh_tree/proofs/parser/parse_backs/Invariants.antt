use Rattle.std.proofs.Common.{◌≤◌, List, ℕ, length}
use Rattle.sh_tree.specs.Lexeme.{Lexeme, lexemes}
use Rattle.sh_tree.specs.Grammar.{AreBacks}
use Rattle.sh_tree.specs.Reading.{IsAfterPipe}
use Rattle.sh_tree.specs.Tree.{Tree, tree_of}
use Rattle.sh_tree.proofs.parser.parse_backs.Given as goal

-- whatever & the rest has, they complete those of the tokens
abbrev pub invariant-loop-after : goal.invariant-loop-after
invariant-loop-after g l = record {
  here : (line : List ℕ) → IsAfterPipe line l.tokens → IsAfterPipe line l.rest;
  completes : (line : List ℕ) (us : List Lexeme) (t : Tree) → AreBacks (lexemes line l.rest) us (tree_of l.command) t → AreBacks (lexemes line l.tokens) us (tree_of l.fn.pipe) t;
  fewer : length l.rest ≤ length l.tokens;
}

abbrev pub decreases-loop-after : goal.decreases-loop-after
decreases-loop-after g l = length l.rest
