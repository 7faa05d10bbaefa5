-- A kernel that is booted with init and the shell of a script is that script's kernel.
use Rattle.std.proofs.Common.{◌≡◌, ◌∙◌, ap, List}
use Rattle.mem_files.specs.Name.{Name, Bytes}
use Rattle.script_load.specs.declared.profile.Profile.{Profile}
use Rattle.script_load.specs.Line.{ScriptLine}
use Rattle.sh_machine.specs.declared.state.Phase.TheVariants.{Starts}
use Rattle.sh_machine.specs.State.{User, init, shell, top}
use Rattle.kernel_model.specs.Boot.{boot_kernel}
use Rattle.kernel_model.specs.History.{History, booted}
use Rattle.run_model.specs.ScriptRun.{script_kernel}

pub script_boot : (profile : Profile) (lines : List ScriptLine) (input : Bytes) (files : List (Name × Bytes)) (first second : User) (kernel : History User) → first ≡ init → second ≡ shell profile (top Starts lines) → kernel ≡ booted (boot_kernel first second input files) → kernel.boot ≡ script_kernel profile lines input files
script_boot profile lines input files first second kernel is_init is_shell is =
    ap (λ (h : History User). h.boot) is ∙ (λ i. boot_kernel (is_init i) (is_shell i) input files)
