use Rattle.xvsh_read.specs.Status.{status_code}
use Rattle.xvsh_ends.proofs.Made.{prints_made}
use Rattle.xvsh_ends.proofs.printing.print_as.Goals as goal

pub returns : goal.returns
returns c text same = prints_made c.args.is_json c.args.made (λ found. found.items) text (status_code c.args.status) c.print_made.result c.print_made.ensures same
