-- By the first line of what is left.
use Rattle.std.proofs.Common.{◌∙◌, sym, arith}
use Rattle.user_progs.proofs.Buffer.{without_line, at_broken, at_match, at_other, shorter}
use Rattle.user_progs.proofs.grep.find.Goals as goal

pub returns-then-not-is_whole-clause-found : goal.returns-then-not-is_whole-clause-found
returns-then-not-is_whole-clause-found c =
    c.keeps.ensures.found
    ∙ sym (at_broken c.args.pattern.now c.in-Some.line.now c.in-Some.after.now c.loop-line.rest.now c.in-Some.ensures.line c.in-Some.ensures.some (sym c.is_whole.ensures ∙ c.if-not-is_whole.true))
    ∙ c.loop-line.invariant.0

pub returns-then-is_match-clause-found : goal.returns-then-is_match-clause-found
returns-then-is_match-clause-found c =
    sym (at_match c.args.pattern.now c.in-Some.line.now c.in-Some.after.now c.loop-line.rest.now c.in-Some.ensures.line c.in-Some.ensures.some (sym c.is_whole.ensures ∙ c.if-not-is_whole.false) (sym c.is_match.ensures.test ∙ c.if-is_match.true))
    ∙ c.loop-line.invariant.0

pub returns-then-is_match-clause-fits : goal.returns-then-is_match-clause-fits
returns-then-is_match-clause-fits c =
    let fewer = shorter c.in-Some.line.now c.in-Some.after.now c.loop-line.rest.now c.in-Some.ensures.some in
    omega (arith, fewer, c.loop-line.invariant.1)

pub loop-line-smaller : goal.loop-line-smaller
loop-line-smaller c = shorter c.in-Some.line.now c.in-Some.after.now c.loop-line.rest.now c.in-Some.ensures.some

pub loop-line-preserved : goal.loop-line-preserved
loop-line-preserved c =
    let fewer = shorter c.in-Some.line.now c.in-Some.after.now c.loop-line.rest.now c.in-Some.ensures.some in (
      sym (at_other c.args.pattern.now c.in-Some.line.now c.in-Some.after.now c.loop-line.rest.now c.in-Some.ensures.line c.in-Some.ensures.some (sym c.is_whole.ensures ∙ c.if-not-is_whole.false) (sym c.is_match.ensures.test ∙ c.if-is_match.false))
          ∙ c.loop-line.invariant.0,
      omega (arith, fewer, c.loop-line.invariant.1),
    )

pub returns-clause-found : goal.returns-clause-found
returns-clause-found c =
    c.keeps-2.ensures.found
    ∙ sym (without_line c.args.pattern.now c.loop-line.rest.now c.in_default.ensures.none)
    ∙ c.loop-line.invariant.0
