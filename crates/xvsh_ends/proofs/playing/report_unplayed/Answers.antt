use Rattle.std.specs.Prelude.{string_bytes}
use Rattle.xvsh_ends.specs.Ends.{asks_played, unplayed}
use Rattle.xvsh_ends.proofs.Dues.{due_made}
use Rattle.xvsh_ends.proofs.playing.report_unplayed.Goals as goal

pub returns : goal.returns
returns c input file what =
    due_made input file (asks_played what) _ string_bytes 4 c.report_made.result c.report_made.ensures (λ text. unplayed (string_bytes text))
