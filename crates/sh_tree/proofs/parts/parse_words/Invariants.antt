use Rattle.std.proofs.Common.{ℕ, List, length}
use Rattle.sh_tree.specs.declared.tree.Mode.{Mode}
use Rattle.sh_tree.specs.Grammar.{AreParts}
use Rattle.sh_tree.specs.Lexeme.{lexemes}
use Rattle.sh_tree.specs.Reading.{IsInParts}
use Rattle.sh_tree.proofs.parts.parse_words.Given as goal

-- these words were read down to the rest
abbrev pub invariant-loop-part : goal.invariant-loop-part
invariant-loop-part g l = record {
  here : IsInParts l.line l.rest;
  read : (redirections : List (Mode × List ℕ)) × AreParts (lexemes l.line l.tokens) (lexemes l.line l.rest) l.words.items redirections;
}

abbrev pub decreases-loop-part : goal.decreases-loop-part
decreases-loop-part g l = length l.rest
