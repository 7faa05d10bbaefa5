use Rattle.kernel_threads.proofs.Closing.{spends}
use Rattle.kernel_threads.proofs.running.run_shared.Goals as goal

pub returns-in-Finished-clause-run : goal.returns-in-Finished-clause-run
returns-in-Finished-clause-run g c = c.into_report.ensures.finished (c.verdict.ensures.finished c.in-Finished.is)

pub returns-in-Spent-clause-spent : goal.returns-in-Spent-clause-spent
returns-in-Spent-clause-spent g c = λ _.
    spends g.M.Machine.code g.M.Machine.call_of g.M.Machine.next_of g.N.Run.boot c.into_locked-locked.result g.N.Run.turns c.is_run.ensures.boot c.is_run.ensures.run (c.verdict.ensures.spent c.in-Spent.is)
