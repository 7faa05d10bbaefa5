use Rattle.law_kernel.proofs.kernel.SoundRuns.{every_run_is_sound}
use Rattle.law_kernel.proofs.kernel.Held.{counts_holders, used_while_held}
use Rattle.law_kernel.proofs.kernel.an_entry_is_open_while_a_descriptor_holds_it.Goals as goal

pub returns-clause-count : goal.returns-clause-count
returns-clause-count g c = λ r e are.
    counts_holders r.last (every_run_is_sound g.M.Machine.call_of g.M.Machine.next_of r.init r.shell r.input r.files r.schedule r.notes r.last are r.runs) e

pub returns-clause-used : goal.returns-clause-used
returns-clause-used g c = λ r e are.
    used_while_held r.last (every_run_is_sound g.M.Machine.call_of g.M.Machine.next_of r.init r.shell r.input r.files r.schedule r.notes r.last are r.runs) e
