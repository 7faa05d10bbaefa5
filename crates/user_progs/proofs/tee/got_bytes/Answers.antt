-- There are bytes, and they fit.
use Rattle.std.proofs.Common.{◌∙◌, List, ℕ, ap, arith}
use Rattle.user_progs.specs.State.{tees, tee_writes}
use Rattle.user_progs.proofs.Given.{tee_some_next}
use Rattle.user_progs.proofs.tee.got_bytes.Goals as goal

pub returns : goal.returns
returns g c =
    ap (λ (b : List ℕ). tees (tee_writes c.args.kept.now.fds b)) c.refill.ensures
    ∙ tee_some_next c.args.kept.now.fds c.args.bytes.now (grind arith) c.requires
