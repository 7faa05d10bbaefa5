use Rattle.script_load.specs.Line.{line_of}
use Rattle.room_bounds.proofs.behind.begun_with.Goals as goal

pub returns : goal.returns
returns g c lines begun = record {
  together = c.and_line.ensures lines (line_of c.args.line.now) begun.together c.line_together.ensures;
  opens = c.opens_with.ensures lines begun.opens;
  needs = c.needs_after.ensures lines begun.needs;
}
