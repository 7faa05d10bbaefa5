use Rattle.std.proofs.Common.{subst}
use Rattle.script_load.specs.Line.{lines_of}
use Rattle.script_load.specs.Script.{HasLoadFault}
use Rattle.xvsh_read.specs.Starting.{unread_script, bad_script}
use Rattle.xvsh_read.proofs.Faults.{at_fault}
use Rattle.xvsh_read.proofs.Begins.{load_fault, lines_at}
use Rattle.xvsh_read.proofs.starting.read_script.Goals as goal

pub returns-in_err-bytes-clause-fault : goal.returns-in_err-bytes-clause-fault
returns-in_err-bytes-clause-fault g c =
    at_fault c.from_residual.result _ _ c.from_residual.ensures.1 (unread_script c.in_err-bytes.ensures.fault)

pub returns-in_err-script-clause-fault : goal.returns-in_err-script-clause-fault
returns-in_err-script-clause-fault g c =
    at_fault c.from_residual-in_err-script.result _ _ c.from_residual-in_err-script.ensures.1 (bad_script c.in_ok-bytes.bytes.items c.in_ok-bytes.ensures.bytes (load_fault c.in_ok-bytes.bytes.items c.in_err-script.field-0.0 (subst (λ b. HasLoadFault b c.in_err-script.field-0.0) c.as_slice.ensures.value c.in_err-script.ensures.fault)))

pub returns-clause-lines : goal.returns-clause-lines
returns-clause-lines g c =
    lines_at (g.H.Host.input c.args.host.now) (g.H.Host.file c.args.host.now) c.args.path.now c.in_ok-bytes.bytes.items c.as_slice.result.now (lines_of c.in_ok-script.script.lines) c.in_ok-bytes.ensures.bytes c.as_slice.ensures.value c.in_ok-script.ensures.script
