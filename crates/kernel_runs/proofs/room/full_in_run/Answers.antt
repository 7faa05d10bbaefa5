use Rattle.script_load.specs.Line.{lines_of}
use Rattle.run_model.specs.ScriptRun.{script_kernel}
use Rattle.kernel_runs.proofs.Ran.{full_of, room_of}
use Rattle.kernel_runs.proofs.room.full_in_run.Goals as goal

pub returns-in-Ok-clause-room : goal.returns-in-Ok-clause-room
returns-in-Ok-clause-room g c =
    let script = c.args.script.now in
    room_of (script_kernel script.profile (lines_of script.lines) c.args.stdin.now c.args.files.now) c.in-Ok.report c.in-Ok.ensures.run

pub returns-in-Ok-clause-full : goal.returns-in-Ok-clause-full
returns-in-Ok-clause-full g c =
    let script = c.args.script.now in
    full_of (script_kernel script.profile (lines_of script.lines) c.args.stdin.now c.args.files.now) c.in-Ok.report c.in-Ok.ensures.run
