use Rattle.std.proofs.Common.{subst, length, take, drop, ◌+◌, ◌-◌}
use Rattle.xvsh_read.specs.Path.{IsLastPart}
use Rattle.xvsh_read.proofs.Names.{sliced_name}
use Rattle.xvsh_read.proofs.reading.last_part.Goals as goal

pub returns-in-Some : goal.returns-in-Some
returns-in-Some c =
    subst (λ path. IsLastPart path (take (length c.as_bytes-bytes.result.now - (c.in-Some.slash + 1)) (drop (c.in-Some.slash + 1) c.as_bytes-bytes.result.now))) c.as_bytes-bytes.ensures.value (sliced_name c.as_bytes-bytes.result.now c.in-Some.slash c.in-Some.ensures.0 c.in-Some.ensures.1)
