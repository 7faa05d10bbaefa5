use Rattle.std.proofs.Common.{◌≡◌, ◌++◌, take, drop}
use Rattle.std.specs.Prelude.{All}
use Rattle.schedule_lines.specs.EventLines.{schedule_text, IsHeld}
use Rattle.schedule_lines.proofs.writing.schedule_text.Given as goal

-- the lines of the events that are left complete the text
abbrev pub invariant-loop-event : goal.invariant-loop-event
invariant-loop-event l = record {
  completes : l.text.items ++ schedule_text (drop l.event-index l.events) ≡ schedule_text l.events;
  held : All IsHeld (take l.event-index l.events);
}
