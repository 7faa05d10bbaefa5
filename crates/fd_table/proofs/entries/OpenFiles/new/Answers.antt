use Rattle.std.proofs.Common.{None}
use Rattle.fd_table.specs.declared.entries.TheConstants.{ENTRIES}
use Rattle.fd_table.proofs.Lists.{is_replicate}
use Rattle.fd_table.proofs.entries.OpenFiles.new.Goals as goal

pub returns : goal.returns
returns c = is_replicate c.default.result ENTRIES None c.default.ensures.long (λ i lt. c.default.ensures.at i None lt)
