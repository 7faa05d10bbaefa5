use Rattle.std.proofs.Common.{inl, inr, subst}
use Rattle.std.proofs.lemmas.Result.{IfErr-weaker}
use Rattle.script_load.specs.Line.{lines_of}
use Rattle.run_model.specs.ScriptRun.{script_kernel}
use Rattle.xvsh_read.proofs.Faults.{at_fault}
use Rattle.xvsh_runs.specs.Why.{IsBytesFault, IsEventsFault}
use Rattle.xvsh_runs.proofs.replaying.replay_bytes.Goals as goal

pub returns-in_err-events-clause-fault : goal.returns-in_err-events-clause-fault
returns-in_err-events-clause-fault c =
    at_fault c.from_residual.result _ _ c.from_residual.ensures.1 (inl c.in_err-events.ensures.fault)

pub returns-clause-fault : goal.returns-clause-fault
returns-clause-fault c =
    let start = c.args.start.now in
    let kernel = script_kernel start.script.profile (lines_of start.script.lines) start.stdin.items start.files in
    IfErr-weaker c.replay_started.result (IsEventsFault kernel c.as_slice.result.now) (IsBytesFault kernel c.args.path.now c.args.bytes.now)
    (λ fault why. inr (c.in_ok-events.events.items, c.in_ok-events.ensures.events, subst (λ events. IsEventsFault kernel events fault) c.as_slice.ensures.value why))
    c.replay_started.ensures.fault
