use Rattle.law_kernel.proofs.kernel.EndsRuns.{every_run_in_step}
use Rattle.law_kernel.proofs.kernel.an_end_is_open_while_an_entry_has_it.Goals as goal

pub returns : goal.returns
returns g c = λ r.
    every_run_in_step g.M.Machine.call_of g.M.Machine.next_of r.init r.shell r.input r.files r.schedule r.notes r.last r.runs
