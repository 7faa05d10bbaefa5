use Rattle.std.specs.Prelude.{string_bytes}
use Rattle.xvsh_read.specs.Status.{status_code}
use Rattle.xvsh_ends.specs.Ends.{asks_paired, unpaired}
use Rattle.xvsh_ends.proofs.Dues.{due_made}
use Rattle.xvsh_ends.proofs.unpaired.report_unpaired.Goals as goal

pub returns : goal.returns
returns c input file what word is =
    due_made input file (asks_paired what word) _ string_bytes (status_code c.args.status) c.report_made.result c.report_made.ensures (λ text. unpaired (string_bytes text) (status_code c.args.status) is)
