use Rattle.std.proofs.Common.{◌≡◌, ◌∙◌, ◌+◌, ◌++◌, ◌∷◌, [], true, ap, subst, arith, refl}
use Rattle.std.specs.Prelude.{count_by}
use Rattle.proc_table.specs.Slots.{at, is_running, is_running_on}
use Rattle.kernel_model.specs.declared.events.Event.TheVariants.{Trap}
use Rattle.kernel_model.specs.History.{History, GoesOn}
use Rattle.kernel_model.specs.Notes.{is_refused}
use Rattle.kernel_events.proofs.Keeping.{kept_after, trap_goes}
use Rattle.kernel_events.proofs.kernel.Kernel.carry_out.Goals as goal

pub invariant_of-self : goal.invariant_of-self
invariant_of-self g c =
    let state = c.self.inside.state in
    let runs : is_running_on c.args.hart (at state.table c.args.pid) ≡ true = rw (← c.self.view_is) at c.requires.runs in
    kept_after g.M.Machine.call_of g.M.Machine.next_of c.self.inside.boot.value state c.trap-memory.new.state c.self.inside.log c.write.new.self (Trap c.args.hart c.args.pid) (is_refused c.trap-memory.result) c.self.invariant
    (trap_goes g.M.Machine.call_of g.M.Machine.next_of state c.trap-memory.new.state c.args.hart c.args.pid c.write_call.new.call (is_refused c.trap-memory.result) runs c.write_call.ensures c.trap-memory.ensures.after)
    (c.write.ensures.events ∙ ap (λ n. c.self.inside.log.events ++ Trap c.args.hart n ∷ []) c.number_of.ensures)
    c.write.ensures.notes
    (omega (arith, c.trap-memory.ensures.keeps.count, c.self.invariant.owed, c.write.ensures.room))
    (omega (arith, c.trap-memory.ensures.keeps.count))
    c.trap-memory.ensures.keeps.sound

pub returns-clause-event : goal.returns-clause-event
returns-clause-event g c =
    let call = g.M.Machine.call_of in
    let next = g.M.Machine.next_of in
    let state = c.self.inside.state in
    let runs : is_running_on c.args.hart (at state.table c.args.pid) ≡ true = rw (← c.self.view_is) at c.requires.runs in
    let old : History g.row.M-State.Denot = record { boot = c.self.inside.boot.value; now = state; schedule = c.self.inside.log.events; notes = c.self.inside.log.notes } in
    let new : History g.row.M-State.Denot = record { boot = c.self.inside.boot.value; now = c.trap-memory.new.state; schedule = c.write.new.self.events; notes = c.write.new.self.notes } in
    let goes : GoesOn call next old (Trap c.args.hart c.args.pid) new =
    record {
      boot = refl;
      schedule = c.write.ensures.events ∙ ap (λ n. c.self.inside.log.events ++ Trap c.args.hart n ∷ []) c.number_of.ensures;
      note = ((is_refused c.trap-memory.result), c.write.ensures.notes, trap_goes call next state c.trap-memory.new.state c.args.hart c.args.pid c.write_call.new.call (is_refused c.trap-memory.result) runs c.write_call.ensures c.trap-memory.ensures.after);
    } in
    subst (λ (k : History g.row.M-State.Denot). GoesOn call next k (Trap c.args.hart c.args.pid) new) c.self.view_is goes

pub returns-clause-running : goal.returns-clause-running
returns-clause-running g c =
    subst (λ (k : History g.row.M-State.Denot). count_by is_running c.trap-memory.new.state.table + 1 ≡ count_by is_running k.now.table) c.self.view_is c.trap-memory.ensures.keeps.count
