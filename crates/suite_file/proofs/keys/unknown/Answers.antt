use Rattle.std.proofs.Common.{◌∙◌, sym}
use Rattle.std.proofs.lemmas.Bool.{true≢false}
use Rattle.suite_file.proofs.KnownKeys.{known_from, known_back}
use Rattle.suite_file.proofs.keys.unknown.Goals as goal

pub returns-then-not-is_known-clause-some : goal.returns-then-not-is_known-clause-some
returns-then-not-is_known-clause-some c all =
    let left = rw c.in-Some.ensures.steps at c.loop-key.invariant.1 all in
    let is = c.is_known.ensures.1 (known_back c.args.known.now c.as_str.result.now (rw c.as_str.ensures.value left.0)) in
    true≢false (sym is ∙ c.if-not-is_known.true)

pub loop-key-preserved : goal.loop-key-preserved
loop-key-preserved c =
    let known = known_from c.args.known.now c.as_str.result.now (c.is_known.ensures.0 c.if-not-is_known.false) in
    let inv = rw c.in-Some.ensures.steps at c.loop-key.invariant in
    ((λ left. inv.0 (rw (← c.as_str.ensures.value) known, left)), (λ all. (inv.1 all).1))
