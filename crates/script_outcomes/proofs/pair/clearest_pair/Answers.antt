use Rattle.std.proofs.Common.{arith}
use Rattle.script_outcomes.proofs.Weights.{before_on}
use Rattle.script_outcomes.proofs.pair.clearest_pair.Goals as goal

pub loop-other-preserved : goal.loop-other-preserved
loop-other-preserved c =
    (c.clearer_with-clearest.ensures.weighed, before_on c.args.outcomes.now c.loop-other.other c.loop-other.clearest.weight c.clearer_with-clearest.result.weight c.loop-other.invariant.1 c.clearer_with-clearest.ensures.before c.clearer_with-clearest.ensures.least)

pub returns-clause-clearest : goal.returns-clause-clearest
returns-clause-clearest c = record {
  is_pair = c.loop-other.invariant.0.is_pair;
  weight = c.loop-other.clearest.weight;
  weighs = c.loop-other.invariant.0.weighs;
  least = λ second other is weighs. c.loop-other.invariant.1 second.other (let a = is.there in let b = is.near in let m = c.min-count.ensures in let t = c.loop-other-test.false in omega (arith, a, b, m, t)) second.first other is.ordered weighs;
}
