use Rattle.std.proofs.Common.{◌∙◌}
use Rattle.prog_parts.proofs.Zeros.{zero_test}
use Rattle.prog_parts.proofs.lines.has_zero.Goals as goal

pub returns : goal.returns
returns c = c.is_some.ensures ∙ zero_test c.args.line.now c.memchr.result c.memchr.ensures
