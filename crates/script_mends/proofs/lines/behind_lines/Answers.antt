use Rattle.std.proofs.Common.{Option, Some, None, arith}
use Rattle.std.specs.Prelude.{IfNone}
use Rattle.script_mends.proofs.Cuts.{next_line, no_more}
use Rattle.script_mends.proofs.lines.behind_lines.Goals as goal

if_none : {X P : Type 0} (found : Option X) → P → IfNone found P
if_none None is = is
if_none (Some x) is = tt

pub returns-in_err-_text-clause-none : goal.returns-in_err-_text-clause-none
returns-in_err-_text-clause-none c =
    let here = c.loop-line.invariant in
    if_none c.from_residual.result (omega (arith, no_more c.args.bytes.now here.0 c.loop-line.rest.now c.loop-line._line here.1 here.2 c.in_err-_text.ensures.none, c.loop-line-test.true))

pub loop-line-preserved : goal.loop-line-preserved
loop-line-preserved c =
    let here = c.loop-line.invariant in
    next_line c.args.bytes.now here.0 c.loop-line.rest.now c.in_ok-_text._text.now c.in_ok-_text.after.now c.loop-line._line here.1 here.2 c.in_ok-_text.ensures.some c.in_ok-_text.ensures.line
