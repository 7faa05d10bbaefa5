use Rattle.law_kernel.proofs.kernel.SoundRuns as runs
use Rattle.law_kernel.proofs.kernel.every_run_is_sound.Goals as goal

pub returns-clause-sound : goal.returns-clause-sound
returns-clause-sound g c = λ r are.
    runs.every_run_is_sound g.M.Machine.call_of g.M.Machine.next_of r.init r.shell r.input r.files r.schedule r.notes r.last are r.runs

pub returns-clause-files : goal.returns-clause-files
returns-clause-files g c = λ r are.
    runs.every_run_has_files g.M.Machine.call_of g.M.Machine.next_of r.init r.shell r.input r.files r.schedule r.notes r.last are r.runs
