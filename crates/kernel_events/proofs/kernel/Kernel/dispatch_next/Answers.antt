use Rattle.std.proofs.Common.{◌≡◌, ◌∙◌, ◌++◌, ◌∷◌, [], ap, subst, arith, false, refl, ◌+◌}
use Rattle.std.specs.Prelude.{All, count_by}
use Rattle.proc_table.specs.declared.states.Status.TheVariants.{Running}
use Rattle.proc_table.specs.Slots.{at, is_running, is_running_on}
use Rattle.proc_table.specs.Calls.{with_status}
use Rattle.proc_table.proofs.Changes.{written}
use Rattle.kernel_model.specs.KernelState.{KernelState}
use Rattle.kernel_model.specs.declared.events.Event.TheVariants.{Dispatch}
use Rattle.kernel_model.specs.History.{History, GoesOn}
use Rattle.kernel_events.proofs.Keeping.{all_fit, dispatch_goes, dispatch_kept, one_more_runs, runs_there}
use Rattle.kernel_events.proofs.kernel.Kernel.dispatch_next.Goals as goal

pub invariant_of-self-2 : goal.invariant_of-self-2
invariant_of-self-2 g c =
    let idle : All (λ slot. is_running_on c.args.hart slot ≡ false) c.self.inside.state.table = rw (← c.self.view_is) at c.requires.idle in
    dispatch_kept g.M.Machine.call_of g.M.Machine.next_of c.self.inside.state c.dispatch.new.self c.args.hart c.in-Some.pid c.requires.hart idle c.in-Some.ensures.was c.in-Some.ensures.after
    c.self.inside.boot.value c.self.inside.log c.write.new.self c.self.invariant
    (c.write.ensures.events ∙ (λ i. c.in_ok-reserve.ensures.events i ++ Dispatch c.args.hart (c.number_of.ensures i) ∷ []))
    (c.write.ensures.notes ∙ ap (λ ns. ns ++ false ∷ []) c.in_ok-reserve.ensures.notes)
    (omega (arith, c.in_ok-reserve.ensures.ok, all_fit c.self.inside.state.table c.self.invariant.sound.slots, c.write.ensures.room))

pub returns-clause-event : goal.returns-clause-event
returns-clause-event g c =
    let idle : All (λ slot. is_running_on c.args.hart slot ≡ false) c.self.inside.state.table = rw (← c.self.view_is) at c.requires.idle in
    let old : History g.row.M-State.Denot = record { boot = c.self.inside.boot.value; now = c.self.inside.state; schedule = c.self.inside.log.events; notes = c.self.inside.log.notes } in
    let new : History g.row.M-State.Denot = record { boot = c.self.inside.boot.value; now = c.dispatch.new.self; schedule = c.write.new.self.events; notes = c.write.new.self.notes } in
    let goes : GoesOn g.M.Machine.call_of g.M.Machine.next_of old (Dispatch c.args.hart c.in-Some.pid) new =
    record {
      boot = refl;
      schedule = c.write.ensures.events ∙ (λ i. c.in_ok-reserve.ensures.events i ++ Dispatch c.args.hart (c.number_of.ensures i) ∷ []);
      note = (false, c.write.ensures.notes ∙ ap (λ ns. ns ++ false ∷ []) c.in_ok-reserve.ensures.notes, dispatch_goes g.M.Machine.call_of g.M.Machine.next_of c.self.inside.state c.dispatch.new.self c.args.hart c.in-Some.pid c.requires.hart idle c.in-Some.ensures.was c.in-Some.ensures.after);
    } in
    subst (λ (k : History g.row.M-State.Denot). GoesOn g.M.Machine.call_of g.M.Machine.next_of k (Dispatch c.args.hart c.in-Some.pid) new) c.self.view_is goes

pub returns-clause-runs : goal.returns-clause-runs
returns-clause-runs g c =
    ap (λ (k : KernelState g.row.M-State.Denot). is_running_on c.args.hart (at k.table c.in-Some.pid)) c.in-Some.ensures.after ∙ runs_there c.self.inside.state.table c.in-Some.pid c.args.hart c.in-Some.ensures.was

pub returns-clause-slot : goal.returns-clause-slot
returns-clause-slot g c =
    let table = c.self.inside.state.table in
    let slot : at c.dispatch.new.self.table c.in-Some.pid ≡ with_status (Running c.args.hart) (at table c.in-Some.pid)
    = ap (λ (k : KernelState g.row.M-State.Denot). at k.table c.in-Some.pid) c.in-Some.ensures.after ∙ written (with_status (Running c.args.hart)) refl table c.in-Some.pid in
    subst (λ (k : History g.row.M-State.Denot). at c.dispatch.new.self.table c.in-Some.pid ≡ with_status (Running c.args.hart) (at k.now.table c.in-Some.pid)) c.self.view_is slot

pub returns-clause-running : goal.returns-clause-running
returns-clause-running g c =
    let one : count_by is_running c.dispatch.new.self.table ≡ count_by is_running c.self.inside.state.table + 1
    = ap (λ (k : KernelState g.row.M-State.Denot). count_by is_running k.table) c.in-Some.ensures.after ∙ one_more_runs c.self.inside.state.table c.in-Some.pid c.args.hart c.in-Some.ensures.was in
    subst (λ (k : History g.row.M-State.Denot). count_by is_running c.dispatch.new.self.table ≡ count_by is_running k.now.table + 1) c.self.view_is one
