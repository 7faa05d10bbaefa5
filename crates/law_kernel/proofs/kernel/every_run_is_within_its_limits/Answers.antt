use Rattle.law_kernel.proofs.kernel.OnePipe.{small_found}
use Rattle.law_kernel.proofs.kernel.Runs.{every_run_rests}
use Rattle.law_kernel.proofs.kernel.SoundRuns.{every_run_is_sound}
use Rattle.law_kernel.proofs.kernel.EntriesLong.{every_run_has_entries}
use Rattle.law_kernel.proofs.kernel.every_run_is_within_its_limits.Goals as goal

pub returns : goal.returns
returns g c = λ r are.
    let sound = every_run_is_sound g.M.Machine.call_of g.M.Machine.next_of r.init r.shell r.input r.files r.schedule r.notes r.last are r.runs in
    record {
      processes = sound.slots;
      entries = every_run_has_entries g.M.Machine.call_of g.M.Machine.next_of r.init r.shell r.input r.files r.schedule r.notes r.last r.runs;
      descriptors = sound.places;
      bytes = λ id p found. small_found r.last.pipes id p (every_run_rests g.M.Machine.call_of g.M.Machine.next_of r.init r.shell r.input r.files r.schedule r.notes r.last r.runs).small found;
    }
