use Rattle.std.proofs.Common.{sym, ◌∙◌}
use Rattle.schedule_lines.specs.EventLines.{adds_event}
use Rattle.schedule_lines.proofs.reading.add_line.Goals as goal

pub returns-clause-added : goal.returns-clause-added
returns-clause-added c = adds_event c.in-Some.event (sym c.is_note.ensures ∙ c.if-is_note.false) c.in-Some.ensures.some.0 c.in-Some.ensures.some.1 c.in_ok-add_event.ensures
