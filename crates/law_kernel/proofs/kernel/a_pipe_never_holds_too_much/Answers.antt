use Rattle.law_kernel.proofs.kernel.Runs.{every_run_rests}
use Rattle.law_kernel.proofs.kernel.OnePipe.{small_found}
use Rattle.law_kernel.proofs.kernel.a_pipe_never_holds_too_much.Goals as goal

pub returns : goal.returns
returns g c = λ r id p found.
    small_found r.last.pipes id p (every_run_rests g.M.Machine.call_of g.M.Machine.next_of r.init r.shell r.input r.files r.schedule r.notes r.last r.runs).small found
