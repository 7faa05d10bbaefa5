use Rattle.std.proofs.Common.{◌≡◌, ◌⊎◌, ◌+◌, ◌≤◌, arith, inl, inr, sym, subst}
use Rattle.script_outcomes.specs.Pairs.{IsWeighed, IsLeastWith, Weighs}
use Rattle.script_outcomes.specs.declared.pair.Pair.{Pair}
use Rattle.script_outcomes.specs.declared.pair.Weighed.{Weighed}
use Rattle.script_outcomes.proofs.Weights.{least_on}
use Rattle.script_outcomes.proofs.pair.clearer_with.Goals as goal

pub loop-first-preserved : goal.loop-first-preserved
loop-first-preserved c = (weighed c.clearer-clearest.ensures.one, low, least) where
  Holds : Weighed → Type 0
  Holds w = IsWeighed c.args.outcomes.now w.pair w.weight

  here : Pair
  here = record { first = c.loop-first.first; other = c.args.other }

  at : c.weigh.result.pair ≡ here
  at = λ i. record { first = c.weigh.ensures.first i; other = c.weigh.ensures.other i }

  next : Weighs c.args.outcomes.now here c.weigh.result.weight
  next = subst (λ (p : Pair). Weighs c.args.outcomes.now p c.weigh.result.weight) at c.weigh.ensures.weight

  made : Holds c.weigh.result
  made = record {
    is_pair = record {
      ordered = let a = c.weigh.ensures.first in let b = c.weigh.ensures.other in let d = c.loop-first-test.true in omega (arith, a, b, d);
      there = let b = c.weigh.ensures.other in let d = c.requires.other in omega (arith, b, d);
      near = let b = c.weigh.ensures.other in let d = c.requires.near in omega (arith, b, d);
    };
    weighs = c.weigh.ensures.weight;
  }

  weighed : (c.clearer-clearest.result ≡ c.loop-first.clearest) ⊎ (c.clearer-clearest.result ≡ c.weigh.result) → Holds c.clearer-clearest.result
  weighed (inl same) = subst Holds (sym same) c.loop-first.invariant.0
  weighed (inr same) = subst Holds (sym same) made

  low : c.clearer-clearest.result.weight ≤ c.args.so_far.weight
  low = let a = c.clearer-clearest.ensures.before in let b = c.loop-first.invariant.1 in omega (arith, a, b)

  least : IsLeastWith c.args.outcomes.now c.args.other (c.loop-first.first + 1) c.clearer-clearest.result.weight
  least =
      least_on c.args.outcomes.now c.args.other c.loop-first.first c.loop-first.clearest.weight c.weigh.result.weight c.loop-first.invariant.2 next c.clearer-clearest.result.weight c.clearer-clearest.ensures.before c.clearer-clearest.ensures.after

pub returns-clause-least : goal.returns-clause-least
returns-clause-least c = λ first n near known. c.loop-first.invariant.2 first n (let a = c.loop-first-test.false in omega (arith, near, a)) known
