-- What an exploration of a kernel shows of a script.
use Rattle.std.proofs.Common.{◌≡◌, List, Result, Ok, Err, IfOk, ◌∙◌}
use Rattle.mem_files.specs.Name.{Name, Bytes}
use Rattle.kernel_model.specs.Boot.{boot_kernel}
use Rattle.script_load.specs.declared.profile.Profile.{Profile}
use Rattle.script_load.specs.Line.{ScriptLine}
use Rattle.sh_machine.specs.declared.state.Phase.TheVariants.{Starts}
use Rattle.sh_machine.specs.State.{User, init, shell, top}
use Rattle.run_model.specs.ScriptRun.{script_kernel}
use Rattle.order_search.specs.Led.{start_kernel}
use Rattle.order_search.proofs.Leading.{start_is}

pub passes : {X E : Type 0} (r : Result X E) (P Q : X → Type 0) → ((x : X) → P x → Q x) → IfOk r P → IfOk r Q
passes (Ok x) P Q more is = more x is
passes (Err e) P Q more is = is

pub script_starts : (profile : Profile) (lines : List ScriptLine) (first second : User) (input : Bytes) (list : List (Name × Bytes)) → first ≡ init → second ≡ shell profile (top Starts lines) → start_kernel first second input list ≡ script_kernel profile lines input list
script_starts profile lines first second input list one two = start_is first second input list ∙ (λ i. boot_kernel (one i) (two i) input list)
