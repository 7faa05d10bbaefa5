use Rattle.script_load.specs.Line.{lines_of}
use Rattle.embed.specs.Starting.{bad_length, bad_script, bad_files}
use Rattle.embed.proofs.Faults.{at_fault}
use Rattle.embed.proofs.beginning.begin.Goals as goal

pub returns-in_err-check_lengths-clause-fault : goal.returns-in_err-check_lengths-clause-fault
returns-in_err-check_lengths-clause-fault c =
    at_fault c.from_residual.result _ _ c.from_residual.ensures.1 (bad_length c.in_err-check_lengths.ensures.fault)

pub returns-in_err-script-clause-fault : goal.returns-in_err-script-clause-fault
returns-in_err-script-clause-fault c =
    at_fault c.from_residual-in_err-script.result _ _ c.from_residual-in_err-script.ensures.1
    (bad_script c.in_err-script.field-0.0 c.in_ok-check_lengths.ensures.script c.in_ok-check_lengths.ensures.stdin c.in_err-script.ensures.fault)

pub returns-in_err-files-clause-fault : goal.returns-in_err-files-clause-fault
returns-in_err-files-clause-fault c =
    at_fault c.from_residual-in_err-files.result _ _ c.from_residual-in_err-files.ensures.1
    (bad_files (lines_of c.in_ok-script.script.lines) c.in_ok-script.ensures.script c.in_err-files.ensures.fault)
