use Rattle.std.proofs.Common.{subst}
use Rattle.script_load.specs.Line.{lines_of}
use Rattle.run_model.specs.ScriptRun.{script_kernel}
use Rattle.xvsh_runs.specs.Why.{IsEventsFault}
use Rattle.xvsh_runs.proofs.replaying.replay_started.Goals as goal

pub returns-in-Err-clause-fault : goal.returns-in-Err-clause-fault
returns-in-Err-clause-fault c =
    let start = c.args.start.now in
    subst (λ stdin. IsEventsFault (script_kernel start.script.profile (lines_of start.script.lines) stdin start.files) c.args.events.now c.fault_of.result) c.as_slice.ensures.value (c.fault_of.ensures.told _ c.in-Err.ensures.fault)
