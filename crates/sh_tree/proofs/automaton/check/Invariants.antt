use Rattle.std.proofs.Common.{◌≡◌, take}
use Rattle.sh_tree.specs.declared.automaton.State.TheVariants.{Begin}
use Rattle.sh_tree.specs.Automaton.{at_place, run}
use Rattle.sh_tree.specs.Lexeme.{lexemes}
use Rattle.sh_tree.proofs.automaton.check.Given as goal

-- the automaton stands there after the tokens so far
abbrev pub invariant-loop-token : goal.invariant-loop-token
invariant-loop-token l =
    run 0 Begin (lexemes l.line (take l.token-index l.tokens)) ≡ at_place l.from.depth l.from.state
