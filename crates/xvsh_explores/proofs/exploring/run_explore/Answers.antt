use Rattle.std.proofs.Common.{subst}
use Rattle.script_load.specs.Line.{lines_of}
use Rattle.script_outcomes.specs.Found.{IsFound}
use Rattle.xvsh_read.proofs.Faults.{at_fault}
use Rattle.xvsh_explores.specs.Explores.{RanExplore, no_memory, no_start}
use Rattle.xvsh_explores.proofs.Known.{missing_early, missing_found, told_faults}
use Rattle.xvsh_explores.proofs.exploring.run_explore.Goals as goal

pub returns-in_err-start-clause-fault : goal.returns-in_err-start-clause-fault
returns-in_err-start-clause-fault g c =
    at_fault c.from_residual-in_err-start.result _ _ c.from_residual-in_err-start.ensures.1 (no_start c.in_err-start.ensures.fault)

pub returns-in_err-found-clause-fault : goal.returns-in_err-found-clause-fault
returns-in_err-found-clause-fault g c =
    let request = c.args.request.now in
    at_fault c.from_residual-in_err-found.result _ _ c.from_residual-in_err-found.ensures.1 (told_faults (g.H.Host.input c.args.host.now) (g.H.Host.file c.args.host.now) request.source.script.now request.source.files.now _ c.in_err-found.ensures.fault)

pub returns-in_err-bad-clause-fault : goal.returns-in_err-bad-clause-fault
returns-in_err-bad-clause-fault g c = at_fault c.from_residual-in_err-bad.result _ _ c.from_residual-in_err-bad.ensures.1 no_memory

pub returns-in_err-dead-clause-fault : goal.returns-in_err-dead-clause-fault
returns-in_err-dead-clause-fault g c = at_fault c.from_residual-in_err-dead.result _ _ c.from_residual-in_err-dead.ensures.1 no_memory

pub returns-in_err-asked-clause-missing : goal.returns-in_err-asked-clause-missing
returns-in_err-asked-clause-missing g c =
    let request = c.args.request.now in
    at_fault c.from_residual.result _ _ c.from_residual.ensures.1 (missing_early (g.H.Host.input c.args.host.now) (g.H.Host.file c.args.host.now) request.source.profile request.source.script.now request.source.files.now request.states request.is_thorough _ c.in_err-asked.ensures.early)

pub returns-in_err-pair-clause-missing : goal.returns-in_err-pair-clause-missing
returns-in_err-pair-clause-missing g c =
    let input = g.H.Host.input c.args.host.now in
    let file = g.H.Host.file c.args.host.now in
    let request = c.args.request.now in
    let start = c.in_ok-start.start in
    let ran : RanExplore input file request.source.profile request.source.script.now request.source.files.now request.states request.is_thorough c.in_ok-found.found = record {
      lines = lines_of start.script.lines;
      given = start.files;
      stdin = start.stdin.items;
      starts = c.in_ok-start.ensures.prepared;
      is = subst (λ profile. IsFound profile (lines_of start.script.lines) start.stdin.items start.files request.states request.is_thorough c.in_ok-found.found) c.in_ok-start.ensures.profile c.in_ok-found.ensures.found;
    } in
    at_fault c.from_residual-in_err-pair.result _ _ c.from_residual-in_err-pair.ensures.1 (missing_found input file request.source.profile request.source.script.now request.source.files.now request.states request.is_thorough c.in_ok-found.found _ ran (c.in_err-pair.ensures.missing c.in_ok-asked.ensures.pair))
