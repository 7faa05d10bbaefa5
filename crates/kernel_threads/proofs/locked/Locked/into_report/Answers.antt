use Rattle.std.proofs.Common.{sym, subst}
use Rattle.kernel_threads.specs.Events.{AreOfHarts}
use Rattle.kernel_threads.proofs.Closing.{so_far, to_the_end}
use Rattle.kernel_threads.proofs.locked.Locked.into_report.Goals as goal

pub returns-clause-run : goal.returns-clause-run
returns-clause-run g c =
    let kernel = c.self.inside.kernel in
    let told = c.into_report.ensures in
    so_far g.M.Machine.code g.M.Machine.call_of g.M.Machine.next_of g.N.Run.boot kernel c.into_report.result c.self.invariant.0 c.replays.ensures told.schedule
    (record { out = told.out; diag = told.diag; files = told.files; full = told.full; finished = told.finished; by_hart = rw told.schedule told.by_hart })

pub returns-clause-finished : goal.returns-clause-finished
returns-clause-finished g c = λ finished.
    let kernel = c.self.inside.kernel in
    let told = c.into_report.ensures in
    to_the_end g.M.Machine.code g.M.Machine.call_of g.M.Machine.next_of g.N.Run.boot kernel c.into_report.result c.self.invariant.0 c.replays.ensures told.schedule
    (record { out = told.out; diag = told.diag; files = told.files; full = told.full; finished = told.finished; by_hart = rw told.schedule told.by_hart })
    (rw c.self.view_is finished)

pub returns-clause-harts : goal.returns-clause-harts
returns-clause-harts g c = subst (AreOfHarts g.N.Run.harts) (sym c.into_report.ensures.schedule) c.self.invariant.3

pub returns-clause-by_hart : goal.returns-clause-by_hart
returns-clause-by_hart g c = rw c.into_report.ensures.schedule c.into_report.ensures.by_hart

pub returns-clause-told : goal.returns-clause-told
returns-clause-told g c = rw (← c.self.view_is) c.into_report.ensures.finished
