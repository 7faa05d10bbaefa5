use Rattle.xvsh_read.proofs.Faults.{at_fault}
use Rattle.xvsh_checks.specs.Check.{no_script_told, not_told}
use Rattle.xvsh_checks.proofs.finding.run_find.Goals as goal

pub returns-in_err-loaded-clause-fault : goal.returns-in_err-loaded-clause-fault
returns-in_err-loaded-clause-fault g c =
    at_fault c.from_residual.result _ _ c.from_residual.ensures.1 (no_script_told c.in_err-loaded.ensures.fault)

pub returns-in_err-found-clause-fault : goal.returns-in_err-found-clause-fault
returns-in_err-found-clause-fault g c =
    at_fault c.from_residual-in_err-found.result _ _ c.from_residual-in_err-found.ensures.1 not_told

pub returns-clause-ran : goal.returns-clause-ran
returns-clause-ran g c = record {
  lines = _;
  loaded = c.in_ok-loaded.ensures.lines;
  of_lines = c.in_ok-found.ensures.found;
  harmless = c.in_ok-found.ensures.harmless;
}
