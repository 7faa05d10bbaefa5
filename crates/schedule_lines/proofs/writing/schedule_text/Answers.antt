use Rattle.std.proofs.Common.{subst, arith}
use Rattle.std.proofs.lemmas.List.{take_all}
use Rattle.std.specs.Prelude.{All}
use Rattle.std.proofs.lemmas.List.Elements.{All-more}
use Rattle.kernel_model.specs.declared.events.Event.{Event}
use Rattle.kernel_model.specs.declared.events.Event.TheVariants.{Dispatch}
use Rattle.schedule_lines.specs.EventLines.{schedule_text, IsHeld}
use Rattle.schedule_lines.proofs.Cutting.{text_more}
use Rattle.schedule_lines.proofs.writing.schedule_text.Goals as goal

pub loop-event-preserved : goal.loop-event-preserved
loop-event-preserved c =
    let d : Event = Dispatch 0 0 in
    let events = c.args.events.now in
    let i = c.loop-event.event-index in record {
      completes = text_more events i d c.loop-event.text.items c.add_event.new.text.items (schedule_text events) (omega arith) c.in_ok-add_event.ensures.text c.loop-event.invariant.completes;
      held = All-more IsHeld events i d (omega arith) c.loop-event.invariant.held c.in_ok-add_event.ensures.held;
    }

pub returns-clause-held : goal.returns-clause-held
returns-clause-held c = subst (All IsHeld) (take_all c.loop-event.event-index c.args.events.now (omega arith)) c.loop-event.invariant.held
