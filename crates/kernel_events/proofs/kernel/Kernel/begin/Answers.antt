use Rattle.std.proofs.Common.{◌≡◌, ◌∙◌, ◌+◌, ◌++◌, ◌∷◌, [], ap, subst, arith, false, true, refl, rules}
use Rattle.std.specs.Prelude.{count_by}
use Rattle.proc_table.specs.declared.states.Status.TheVariants.{Running}
use Rattle.proc_table.specs.Slots.{at, is_running, is_running_on}
use Rattle.proc_table.specs.Calls.{CanDispatch, dispatched, with_status}
use Rattle.proc_table.proofs.Changes.{written}
use Rattle.kernel_model.specs.KernelState.{KernelState}
use Rattle.kernel_model.specs.Events.{counted}
use Rattle.kernel_model.specs.declared.events.Event.TheVariants.{Dispatch}
use Rattle.kernel_model.specs.History.{History, GoesOn}
use Rattle.kernel_events.proofs.Keeping.{all_fit, dispatch_goes, dispatch_kept, one_more_runs, runs_there}
use Rattle.kernel_events.proofs.kernel.Kernel.begin.Goals as goal

pub invariant_of-self-2 : goal.invariant_of-self-2
invariant_of-self-2 g c =
    let can : CanDispatch c.self.inside.state.table c.args.hart c.args.pid = search rules in
    let same : c.number_of.result ≡ c.args.pid = search rules in
    let after : c.dispatch_pid.new.self ≡ record (counted c.self.inside.state) { table = dispatched c.self.inside.state.table c.args.pid c.args.hart } = search rules in
    dispatch_kept g.M.Machine.call_of g.M.Machine.next_of c.self.inside.state c.dispatch_pid.new.self c.args.hart c.args.pid can.0 can.1 can.2 after
    c.self.inside.boot.value c.self.inside.log c.write.new.self c.self.invariant
    (c.write.ensures.events ∙ (λ i. c.in_ok-reserve.ensures.events i ++ Dispatch c.args.hart (same i) ∷ []))
    (c.write.ensures.notes ∙ ap (λ ns. ns ++ false ∷ []) c.in_ok-reserve.ensures.notes)
    (omega (arith, c.in_ok-reserve.ensures.ok, all_fit c.self.inside.state.table c.self.invariant.sound.slots, c.write.ensures.room))

pub returns-clause-event : goal.returns-clause-event
returns-clause-event g c =
    let can : CanDispatch c.self.inside.state.table c.args.hart c.args.pid = search rules in
    let same : c.number_of.result ≡ c.args.pid = search rules in
    let after : c.dispatch_pid.new.self ≡ record (counted c.self.inside.state) { table = dispatched c.self.inside.state.table c.args.pid c.args.hart } = search rules in
    let old : History g.row.M-State.Denot = record { boot = c.self.inside.boot.value; now = c.self.inside.state; schedule = c.self.inside.log.events; notes = c.self.inside.log.notes } in
    let new : History g.row.M-State.Denot = record { boot = c.self.inside.boot.value; now = c.dispatch_pid.new.self; schedule = c.write.new.self.events; notes = c.write.new.self.notes } in
    let goes : GoesOn g.M.Machine.call_of g.M.Machine.next_of old (Dispatch c.args.hart c.args.pid) new =
    record {
      boot = refl;
      schedule = c.write.ensures.events ∙ (λ i. c.in_ok-reserve.ensures.events i ++ Dispatch c.args.hart (same i) ∷ []);
      note = (false, c.write.ensures.notes ∙ ap (λ ns. ns ++ false ∷ []) c.in_ok-reserve.ensures.notes, dispatch_goes g.M.Machine.call_of g.M.Machine.next_of c.self.inside.state c.dispatch_pid.new.self c.args.hart c.args.pid can.0 can.1 can.2 after);
    } in
    subst (λ (k : History g.row.M-State.Denot). GoesOn g.M.Machine.call_of g.M.Machine.next_of k (Dispatch c.args.hart c.args.pid) new) c.self.view_is goes

pub returns-clause-slot : goal.returns-clause-slot
returns-clause-slot g c =
    let table = c.self.inside.state.table in
    let after : c.dispatch_pid.new.self ≡ record (counted c.self.inside.state) { table = dispatched table c.args.pid c.args.hart } = search rules in
    let slot : at c.dispatch_pid.new.self.table c.args.pid ≡ with_status (Running c.args.hart) (at table c.args.pid)
    = ap (λ (k : KernelState g.row.M-State.Denot). at k.table c.args.pid) after ∙ written (with_status (Running c.args.hart)) refl table c.args.pid in
    subst (λ (k : History g.row.M-State.Denot). at c.dispatch_pid.new.self.table c.args.pid ≡ with_status (Running c.args.hart) (at k.now.table c.args.pid)) c.self.view_is slot

pub returns-clause-runs : goal.returns-clause-runs
returns-clause-runs g c =
    let table = c.self.inside.state.table in
    let can : CanDispatch table c.args.hart c.args.pid = search rules in
    let after : c.dispatch_pid.new.self ≡ record (counted c.self.inside.state) { table = dispatched table c.args.pid c.args.hart } = search rules in
    ap (λ (k : KernelState g.row.M-State.Denot). is_running_on c.args.hart (at k.table c.args.pid)) after ∙ runs_there table c.args.pid c.args.hart can.2

pub returns-clause-running : goal.returns-clause-running
returns-clause-running g c =
    let table = c.self.inside.state.table in
    let can : CanDispatch table c.args.hart c.args.pid = search rules in
    let after : c.dispatch_pid.new.self ≡ record (counted c.self.inside.state) { table = dispatched table c.args.pid c.args.hart } = search rules in
    let one : count_by is_running c.dispatch_pid.new.self.table ≡ count_by is_running table + 1
    = ap (λ (k : KernelState g.row.M-State.Denot). count_by is_running k.table) after ∙ one_more_runs table c.args.pid c.args.hart can.2 in
    subst (λ (k : History g.row.M-State.Denot). count_by is_running c.dispatch_pid.new.self.table ≡ count_by is_running k.now.table + 1) c.self.view_is one
