use Rattle.std.proofs.Common.{◌∙◌, sym, ◌++◌, ◌+◌, ◌-◌, ap, take, drop, arith}
use Rattle.prog_parts.specs.Head.{first_lines}
use Rattle.plain_run.proofs.Prefixes.{one_byte}
use Rattle.plain_run.proofs.head.prefix_length.Goals as goal

pub loop-i-preserved : goal.loop-i-preserved
loop-i-preserved c =
    ap (λ d. take (c.loop-i.i + 1) c.args.bytes.now ++ first_lines (c.loop-i.left - d) (drop (c.loop-i.i + 1) c.args.bytes.now)) c.lines_ended-left.ensures
    ∙ sym (one_byte c.loop-i.left c.loop-i.i c.args.bytes.now c.if-left-eq0.false (omega arith))
    ∙ c.loop-i.invariant
