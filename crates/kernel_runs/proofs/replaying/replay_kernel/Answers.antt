use Rattle.std.proofs.Common.{◌≡◌, ◌∙◌, sym, ap, Some, rules}
use Rattle.std.specs.Prelude.{IsTrue}
use Rattle.kernel_model.specs.Events.{run, IsFinished}
use Rattle.kernel_runs.specs.Refused.{StopsAt}
use Rattle.kernel_runs.proofs.Stopping.{fault_from}
use Rattle.kernel_runs.proofs.replaying.replay_kernel.Goals as goal

pub returns-in-Err-clause-fault : goal.returns-in-Err-clause-fault
returns-in-Err-clause-fault g c =
    let new = c.carry_out-happened.new.kernel in
    let stops : StopsAt new.now new.schedule c.args.events.now c.in-Err.fault = search rules in
    fault_from g.M.Machine.call_of g.M.Machine.next_of c.args.kernel.boot new c.args.events.now c.in-Err.fault
    (ap (λ k. run g.M.Machine.call_of g.M.Machine.next_of (Some k) new.schedule new.notes) (sym c.carry_out-happened.ensures.boot) ∙ c.replays.ensures) stops

pub returns-in-Ok-clause-fault : goal.returns-in-Ok-clause-fault
returns-in-Ok-clause-fault g c =
    let new = c.carry_out-happened.new.kernel in
    let schedule : new.schedule ≡ c.args.events.now = search rules in
    let unfinished : IsFinished new.now → ⊥ = λ finished. let is = c.is_finished.ensures.1 finished in (let z : ⊥ = cc in z) in
    record {
      notes = new.notes;
      last = new.now;
      runs = (λ i. run g.M.Machine.call_of g.M.Machine.next_of (Some (sym c.carry_out-happened.ensures.boot i)) (sym schedule i) new.notes) ∙ c.replays.ensures;
      unfinished = unfinished;
    }

pub returns-in-Ok-2-clause-run : goal.returns-in-Ok-2-clause-run
returns-in-Ok-2-clause-run g c =
    let new = c.carry_out-happened.new.kernel in
    let told = c.into_report.ensures in
    let finished : IsFinished new.now = c.is_finished.ensures.0 (let is : IsTrue c.is_finished.result = cc in is) in
    record {
      last = new.now;
      notes = new.notes;
      runs = (λ i. run g.M.Machine.call_of g.M.Machine.next_of (Some (sym c.carry_out-happened.ensures.boot i)) (told.schedule i) new.notes) ∙ c.replays.ensures;
      finished = finished;
      tells = record { out = told.out; diag = told.diag; files = told.files; full = told.full; finished = told.finished; by_hart = rw told.schedule told.by_hart };
    }
