use Rattle.std.proofs.Common.{not, length, length-set, arith}
use Rattle.grep_match.proofs.Stepping.{goes_on, came_through, at_end, begun_states}
use Rattle.grep_match.proofs.states.is_match_by_states.Goals as goal

pub loop-other-init : goal.loop-other-init
loop-other-init c =
    begun_states c.split_anchor-anchored.result.0 c.fill.new.self (length c.args.states.now) c.split_anchor-anchored.result.1.now c.args.pattern.now c.args.text.now
    (c.fill.ensures.after (λ y e. e)) (omega (arith, c.requires)) c.split_anchor-anchored.ensures.anchored c.split_anchor-anchored.ensures.items

pub returns-then-step : goal.returns-then-step
returns-then-step c =
    came_through (not c.split_anchor-anchored.result.0) _ c.step.result c.split_anchor-anchored.result.1.now c.loop-other.states c.step.new.states c.args.text.now c.loop-other.other-index
    (omega (arith, c.requires, c.split_anchor-anchored.ensures.fewer, c.loop-other.auto.states, length-set c.fill.new.self 0 c.split_anchor-anchored.result.0, c.fill.ensures.len)) c.loop-other-test.true c.step.ensures.through c.if-step.true c.loop-other.invariant

pub loop-other-preserved : goal.loop-other-preserved
loop-other-preserved c =
    goes_on (not c.split_anchor-anchored.result.0) _ c.step.result c.split_anchor-anchored.result.1.now c.loop-other.states c.step.new.states c.args.text.now c.loop-other.other-index
    (omega (arith, c.requires, c.split_anchor-anchored.ensures.fewer, c.loop-other.auto.states, length-set c.fill.new.self 0 c.split_anchor-anchored.result.0, c.fill.ensures.len)) c.loop-other-test.true c.step.ensures.through c.step.ensures.moved c.if-step.false c.loop-other.invariant

pub returns : goal.returns
returns c =
    at_end (not c.split_anchor-anchored.result.0) _ c.step-2.result c.split_anchor-anchored.result.1.now c.loop-other.states c.step-2.new.states c.args.text.now c.loop-other.other-index
    (omega (arith, c.requires, c.split_anchor-anchored.ensures.fewer, c.loop-other.auto.states, length-set c.fill.new.self 0 c.split_anchor-anchored.result.0, c.fill.ensures.len)) (omega arith) c.step-2.ensures.through c.loop-other.invariant
