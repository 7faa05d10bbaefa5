use Rattle.law_kernel.proofs.kernel.Runs.{every_run_rests}
use Rattle.law_kernel.proofs.kernel.no_wake_up_is_lost.Goals as goal

pub returns : goal.returns
returns g c = λ r.
    (every_run_rests g.M.Machine.call_of g.M.Machine.next_of r.init r.shell r.input r.files r.schedule r.notes r.last r.runs).waits
