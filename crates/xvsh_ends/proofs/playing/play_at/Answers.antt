use Rattle.xvsh_ends.specs.Ends.{asks_traced, played}
use Rattle.xvsh_ends.proofs.playing.play_at.Goals as goal

pub returns-in-Unasked : goal.returns-in-Unasked
returns-in-Unasked g c input file what due =
    played (c.drawn.ensures input file what due)

pub returns-in-Page : goal.returns-in-Page
returns-in-Page g c input file what due =
    played (c.drawn-in-Page.ensures input file what due)

pub returns-in-Refused : goal.returns-in-Refused
returns-in-Refused g c input file what due =
    c.report_unplayed.ensures input file (asks_traced what c.args.path.now)
