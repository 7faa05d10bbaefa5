use Rattle.std.proofs.Common.{◌≡◌, length-take, take, slice_range, get_or, true, false, subst, sym, ◌∙◌, arith}
use Rattle.std.proofs.lemmas.List.{take_all}
use Rattle.sh_lexer.specs.declared.token.Kind.TheVariants.{Word}
use Rattle.sh_lexer.specs.declared.token.Token.{Token}
use Rattle.sh_tree.specs.declared.automaton.State.TheVariants.{Begin}
use Rattle.sh_tree.specs.Automaton.{at_place, run}
use Rattle.sh_tree.specs.Fault.{StopsAt}
use Rattle.sh_tree.specs.Lexeme.{lexemes}
use Rattle.sh_tree.proofs.Refusal.{low, takes_token, stops_here, stops_at_end}
use Rattle.sh_tree.proofs.automaton.check.Goals as goal
use Rattle.sh_tree.proofs.automaton.check.Goals.{then-from-gt0-via-then-from-gt0, then-from-gt0-via-else-from-gt0+then-not-ends_line}

none : Token
none = record { kind = Word; first = 0; past = 0 }

pub step-requires : goal.step-requires
step-requires c =
    let few = low c.args.line.now (take c.loop-token.token-index c.args.tokens.now) c.loop-token.from.depth c.loop-token.from.state c.loop-token.invariant in
    omega (arith, few, length-take c.loop-token.token-index c.args.tokens.now)

pub returns-in_default-clause-fault : goal.returns-in_default-clause-fault
unfolding none
returns-in_default-clause-fault c =
    let t : Token = get_or c.args.tokens.now c.loop-token.token-index none in
    subst (StopsAt c.args.line.now c.args.tokens.now) (sym c.refusal.ensures)
    (stops_here c.args.line.now c.args.tokens.now c.loop-token.token-index none c.loop-token.from.depth c.loop-token.from.state c.loop-token-test.true c.loop-token.invariant
    (sym (c.step.ensures (slice_range c.args.line.now t.first t.past)) ∙ c.in_default.is))

pub loop-token-preserved : goal.loop-token-preserved
unfolding none
loop-token-preserved c =
    let t : Token = get_or c.args.tokens.now c.loop-token.token-index none in
    takes_token c.args.line.now c.args.tokens.now c.loop-token.token-index none c.loop-token.from.depth c.loop-token.from.state c.in-Some.next c.loop-token-test.true c.loop-token.invariant
    (sym (c.step.ensures (slice_range c.args.line.now t.first t.past)) ∙ c.in-Some.is)

-- all tokens are taken
pub returns-then-from-gt0-clause-fault : goal.returns-then-from-gt0-clause-fault
returns-then-from-gt0-clause-fault c =
    let whole : take c.loop-token.token-index c.args.tokens.now ≡ c.args.tokens.now = take_all c.loop-token.token-index c.args.tokens.now (omega arith) in
    let taken : run 0 Begin (lexemes c.args.line.now c.args.tokens.now) ≡ at_place c.loop-token.from.depth c.loop-token.from.state =
    subst (λ l. run 0 Begin (lexemes c.args.line.now l) ≡ at_place c.loop-token.from.depth c.loop-token.from.state) whole c.loop-token.invariant
    in
    subst (StopsAt c.args.line.now c.args.tokens.now) (sym c.refusal-then-from-gt0.ensures)
    (stops_at_end c.args.line.now c.args.tokens.now c.loop-token.from.depth c.loop-token.from.state taken
    (λ closed ends.
    elim c.then-from-gt0.branch [
      | then-from-gt0-via-then-from-gt0 w ↦ absurd (omega arith)
      | then-from-gt0-via-else-from-gt0+then-not-ends_line w ↦ let both : false ≡ true = sym w.if-not-ends_line.true ∙ w.ends_line.ensures ∙ ends in cc
    ]))
