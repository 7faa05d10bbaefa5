use Rattle.std.proofs.Common.{◌≡◌, ◌∙◌, sym, ap, subst, true, List, Some, Err, rules}
use Rattle.std.specs.Prelude.{All}
use Rattle.kernel_model.specs.declared.events.Event.{Event}
use Rattle.kernel_model.specs.Events.{run, IsFinished}
use Rattle.kernel_events.specs.Harts.{is_of_hart}
use Rattle.kernel_runs.specs.declared.run.RunOneFault.TheVariants.{Spent}
use Rattle.kernel_runs.proofs.run.run_kernel.Goals as goal

pub returns-in-Err-clause-spent : goal.returns-in-Err-clause-spent
returns-in-Err-clause-spent g c = λ is.
    let new = c.take_turns-taken.new.kernel in
    let was : c.take_turns-taken.result ≡ Err Spent = search rules in
    record {
      events = new.schedule;
      notes = new.notes;
      last = new.now;
      runs = ap (λ k. run g.M.Machine.call_of g.M.Machine.next_of (Some k) new.schedule new.notes) (sym c.take_turns-taken.ensures.boot) ∙ c.replays.ensures;
      spent = c.take_turns-taken.ensures.spent was;
    }

pub returns-in-Ok-clause-run : goal.returns-in-Ok-clause-run
returns-in-Ok-clause-run g c =
    let new = c.take_turns-taken.new.kernel in
    let told = c.into_report.ensures in
    let finished : IsFinished new.now = search rules in
    record {
      last = new.now;
      notes = new.notes;
      runs = (λ i. run g.M.Machine.call_of g.M.Machine.next_of (Some (sym c.take_turns-taken.ensures.boot i)) (told.schedule i) new.notes) ∙ c.replays.ensures;
      finished = finished;
      tells = record { out = told.out; diag = told.diag; files = told.files; full = told.full; finished = told.finished; by_hart = rw told.schedule told.by_hart };
    }

pub returns-in-Ok-clause-hart : goal.returns-in-Ok-clause-hart
returns-in-Ok-clause-hart g c =
    subst (λ (events : List Event). All (λ event. is_of_hart 0 event ≡ true) events) (sym c.into_report.ensures.schedule) c.take_turns-taken.ensures.hart
