use Rattle.kernel_threads.proofs.sharing.Shared.close.Goals as goal

pub returns-clause-finished : goal.returns-clause-finished
returns-clause-finished g c = λ finished. c.into_report.ensures.finished (c.into_report.ensures.told.0 finished)
