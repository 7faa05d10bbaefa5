use Rattle.std.proofs.Common.{◌≡◌, ◌+◌, ◌≤◌, ℕ, List, length}
use Rattle.sh_tree.specs.declared.tree.Mode.{Mode}
use Rattle.sh_tree.specs.Grammar.{AreParts}
use Rattle.sh_tree.specs.Lexeme.{lexemes}
use Rattle.sh_tree.specs.Reading.{IsInParts}
use Rattle.sh_tree.proofs.parts.count_words.Given as goal

-- so many words were read down to the rest
abbrev pub invariant-loop-part : goal.invariant-loop-part
invariant-loop-part l = record {
  here : IsInParts l.line l.rest;
  read : (words : List (List ℕ)) × (redirections : List (Mode × List ℕ)) × AreParts (lexemes l.line l.tokens) (lexemes l.line l.rest) words redirections × (l.count ≡ length words);
  room : l.count + length l.rest ≤ length l.tokens;
}

abbrev pub decreases-loop-part : goal.decreases-loop-part
decreases-loop-part l = length l.rest
