use Rattle.std.proofs.Common.{◌≡◌, ◌++◌, ℕ, length}
use Rattle.sh_lexer.specs.Tokens.{AreTokensFrom}
use Rattle.script_notes.specs.Whole.{places_of}
use Rattle.script_notes.proofs.whole.places_of.Given as goal

-- the places among the tokens that are left complete those of all
abbrev pub invariant-loop-token : goal.invariant-loop-token
invariant-loop-token l = record {
  here : (from : ℕ) × AreTokensFrom l.text from l.rest;
  found : l.spans.items ++ places_of l.text l.name l.rest ≡ places_of l.text l.name l.tokens;
}

abbrev pub decreases-loop-token : goal.decreases-loop-token
decreases-loop-token l = length l.rest
