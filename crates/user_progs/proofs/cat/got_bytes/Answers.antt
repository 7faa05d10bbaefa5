use Rattle.std.proofs.Common.{arith}
use Rattle.user_progs.proofs.Given.{cat_some}
use Rattle.user_progs.proofs.cat.got_bytes.Goals as goal

pub returns : goal.returns
returns c = cat_some c.args.bytes.now (grind arith) c.requires
