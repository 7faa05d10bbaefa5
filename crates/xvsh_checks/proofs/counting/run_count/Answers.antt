use Rattle.std.proofs.Common.{subst}
use Rattle.mem_files.specs.Files.{files}
use Rattle.script_load.specs.Line.{lines_of}
use Rattle.xvsh_read.proofs.Faults.{at_fault}
use Rattle.xvsh_checks.specs.Turns.{AreTurnsFound, no_start, turns_not_told}
use Rattle.xvsh_checks.proofs.counting.run_count.Goals as goal

pub returns-in_err-start-clause-fault : goal.returns-in_err-start-clause-fault
returns-in_err-start-clause-fault g c =
    at_fault c.from_residual.result _ _ c.from_residual.ensures.1 (no_start c.in_err-start.ensures.fault)

pub returns-in_err-findings-clause-fault : goal.returns-in_err-findings-clause-fault
returns-in_err-findings-clause-fault g c =
    at_fault c.from_residual-in_err-findings.result _ _ c.from_residual-in_err-findings.ensures.1 turns_not_told

pub returns-clause-ran : goal.returns-clause-ran
returns-clause-ran g c =
    let start = c.in_ok-start.start in
    let lines = lines_of start.script.lines in
    record {
      lines = lines;
      given = start.files;
      stdin = start.stdin.items;
      starts = c.in_ok-start.ensures.prepared;
      of_lines = c.in_ok-findings.ensures.found;
      of_turns = subst (λ s. AreTurnsFound lines s (files start.files) c.turns_of-turns.result) c.as_slice.ensures.value c.turns_of-turns.ensures;
      harmless = c.in_ok-findings.ensures.harmless;
    }
