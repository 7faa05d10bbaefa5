use Rattle.kernel_model.proofs.Booting.{boot_sound, nobody_runs}
use Rattle.kernel_model.proofs.laws.a_kernel_is_sound_at_its_start.Goals as goal

pub returns-clause-sound : goal.returns-clause-sound
returns-clause-sound g c = boot_sound

pub returns-clause-nobody_runs : goal.returns-clause-nobody_runs
returns-clause-nobody_runs g c = nobody_runs
