use Rattle.std.specs.Prelude.{string_bytes}
use Rattle.xvsh_ends.specs.Ends.{misuse, misused}
use Rattle.xvsh_ends.proofs.Dues.{due_made}
use Rattle.xvsh.proofs.parsing.misuse_ending.Goals as goal

pub returns-clause-due : goal.returns-clause-due
returns-clause-due c = λ input file. due_made input file misuse c.told_of.result string_bytes 2 c.report_made.result c.report_made.ensures (λ text. misused (string_bytes text))
