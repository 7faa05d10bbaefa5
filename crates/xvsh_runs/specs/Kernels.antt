-- The kernel with which a run of what was read begins.
use Rattle.script_load.specs.Line.{lines_of}
use Rattle.sh_machine.specs.State.{User}
use Rattle.kernel_model.specs.KernelState.{KernelState}
use Rattle.run_model.specs.ScriptRun.{script_kernel}
use Rattle.xvsh_read.specs.declared.starting.Start.{Start}

abbrev pub kernel_of : Start → KernelState User
kernel_of start = script_kernel start.script.profile (lines_of start.script.lines) start.stdin.items start.files
