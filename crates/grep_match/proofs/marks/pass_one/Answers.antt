use Rattle.std.proofs.Common.{arith, ◌∙◌}
use Rattle.grep_match.proofs.Passing.{one_ends}
use Rattle.grep_match.proofs.marks.pass_one.Goals as goal

pub returns : goal.returns
returns c = one_ends c.args.byte c.loop-place.marks c.args.text.now c.loop-place.place (omega arith) ∙ c.loop-place.invariant
