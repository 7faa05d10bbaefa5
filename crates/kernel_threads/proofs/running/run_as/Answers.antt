use Rattle.std.proofs.Common.{◌≡◌, ◌∙◌, Err, ap}
use Rattle.kernel_threads.specs.declared.faults.RunFault.TheVariants.{BadHarts, BadTurns}
use Rattle.kernel_threads.proofs.running.run_as.Goals as goal

pub returns-in-Err-clause-bad_harts : goal.returns-in-Err-clause-bad_harts
returns-in-Err-clause-bad_harts g c = λ is.
    let fault : c.in-Err.fault ≡ BadHarts = cc in
    c.start.ensures.bad_harts.0 (c.in-Err.is ∙ ap Err fault)

pub returns-in-Err-clause-bad_turns : goal.returns-in-Err-clause-bad_turns
returns-in-Err-clause-bad_turns g c = λ is.
    let fault : c.in-Err.fault ≡ BadTurns = cc in
    (c.start.ensures.bad_turns.0 (c.in-Err.is ∙ ap Err fault)).1
