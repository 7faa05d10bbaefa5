use Rattle.law_kernel.proofs.kernel.AskRuns.{every_run_asks}
use Rattle.law_kernel.proofs.kernel.whoever_sleeps_asks_for_it.Goals as goal

pub returns : goal.returns
returns g c = λ r are.
    every_run_asks g.M.Machine.call_of g.M.Machine.next_of r.init r.shell r.input r.files r.schedule r.notes r.last are r.runs
