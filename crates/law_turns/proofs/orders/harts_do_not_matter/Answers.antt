use Rattle.kernel_model.specs.KernelRun.{start_of}
use Rattle.law_turns.proofs.orders.Booted.{boot_still}
use Rattle.law_turns.proofs.orders.Matching.{run_matched}
use Rattle.law_turns.proofs.orders.harts_do_not_matter.Goals as goal

pub returns-clause-still : goal.returns-clause-still
returns-clause-still g c = run_matched g.M.Machine.call_of g.M.Machine.next_of

pub returns-clause-booted : goal.returns-clause-booted
returns-clause-booted g c = λ r are.
    run_matched g.M.Machine.call_of g.M.Machine.next_of (start_of r) r.last r.schedule r.notes (boot_still r.init r.shell r.input r.files are) r.runs
