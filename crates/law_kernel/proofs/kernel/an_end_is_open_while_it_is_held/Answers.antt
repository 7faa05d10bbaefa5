use Rattle.kernel_model.specs.Pipes.{pipe_of}
use Rattle.law_kernel.specs.Ends.{reads_pipe, writes_pipe, read_end_open, write_end_open}
use Rattle.law_kernel.proofs.kernel.EndsRuns.{every_run_in_step}
use Rattle.law_kernel.proofs.kernel.SoundRuns.{every_run_is_sound}
use Rattle.law_kernel.proofs.kernel.Held.{open_while_held}
use Rattle.law_kernel.proofs.kernel.an_end_is_open_while_it_is_held.Goals as goal

pub returns-clause-reader : goal.returns-clause-reader
returns-clause-reader g c = λ r id are.
    let sound = every_run_is_sound g.M.Machine.call_of g.M.Machine.next_of r.init r.shell r.input r.files r.schedule r.notes r.last are r.runs in
    let ends = every_run_in_step g.M.Machine.call_of g.M.Machine.next_of r.init r.shell r.input r.files r.schedule r.notes r.last r.runs in
    open_while_held r.last sound (reads_pipe id) (read_end_open (pipe_of r.last.pipes id)) (ends.readers id)

pub returns-clause-writer : goal.returns-clause-writer
returns-clause-writer g c = λ r id are.
    let sound = every_run_is_sound g.M.Machine.call_of g.M.Machine.next_of r.init r.shell r.input r.files r.schedule r.notes r.last are r.runs in
    let ends = every_run_in_step g.M.Machine.call_of g.M.Machine.next_of r.init r.shell r.input r.files r.schedule r.notes r.last r.runs in
    open_while_held r.last sound (writes_pipe id) (write_end_open (pipe_of r.last.pipes id)) (ends.writers id)
