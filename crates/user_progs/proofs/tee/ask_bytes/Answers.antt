-- There are bytes, and they fit.
use Rattle.std.proofs.Common.{arith}
use Rattle.user_progs.proofs.Given.{tee_some_call}
use Rattle.user_progs.proofs.tee.ask_bytes.Goals as goal

pub returns : goal.returns
returns c = tee_some_call c.args.fds.now c.args.bytes.now (grind arith) c.requires
