use Rattle.std.proofs.Common.{◌∙◌, arith}
use Rattle.grep_match.proofs.Stepping.{moved_ends}
use Rattle.grep_match.proofs.states.step.Goals as goal

pub returns-clause-moved : goal.returns-clause-moved
returns-clause-moved c =
    moved_ends c.args.next c.loop-item.reached c.loop-item.arrived c.loop-item.states c.loop-item.state c.loop-item.left.now
    (omega (arith, c.requires, c.loop-item.auto.states, c.loop-item.invariant.room)) (c.in_default.ensures).none
    ∙ c.loop-item.invariant.moves
