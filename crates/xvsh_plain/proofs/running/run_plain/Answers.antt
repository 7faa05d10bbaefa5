use Rattle.std.proofs.Common.{subst}
use Rattle.mem_files.specs.Files.{files}
use Rattle.script_load.specs.Line.{lines_of}
use Rattle.xvsh_read.proofs.Faults.{at_fault}
use Rattle.xvsh_plain.specs.Reasoned.{IsKnownIf, IsReasoned}
use Rattle.xvsh_plain.specs.Running.{no_start, no_run, IsMeaningFault}
use Rattle.xvsh_plain.proofs.running.run_plain.Goals as goal

pub returns-in_err-start-clause-fault : goal.returns-in_err-start-clause-fault
returns-in_err-start-clause-fault g c =
    at_fault c.from_residual.result _ _ c.from_residual.ensures.1 (no_start c.in_err-start.ensures.fault)

pub returns-in_err-reasoned-clause-fault : goal.returns-in_err-reasoned-clause-fault
returns-in_err-reasoned-clause-fault g c =
    let start = c.in_ok-start.start in
    let lines = lines_of start.script.lines in
    let given = files start.files in
    let due = subst (λ profile. IsMeaningFault profile lines start.stdin.items given c.in_err-reasoned.field-0.0) c.in_ok-start.ensures.profile (subst (λ s. IsMeaningFault start.script.profile lines s given c.in_err-reasoned.field-0.0) c.as_slice-stdin.ensures.value c.in_err-reasoned.ensures.run) in
    at_fault c.from_residual-in_err-reasoned.result _ _ c.from_residual-in_err-reasoned.ensures.1 (no_run lines start.files start.stdin.items c.in_ok-start.ensures.prepared due)

pub returns-in_err-known-clause-fault : goal.returns-in_err-known-clause-fault
returns-in_err-known-clause-fault g c =
    let start = c.in_ok-start.start in
    at_fault c.from_residual-in_err-known.result _ _ c.from_residual-in_err-known.ensures.1 (no_run (lines_of start.script.lines) start.files start.stdin.items c.in_ok-start.ensures.prepared tt)

pub returns-in_err-bad-clause-fault : goal.returns-in_err-bad-clause-fault
returns-in_err-bad-clause-fault g c =
    let start = c.in_ok-start.start in
    at_fault c.from_residual-in_err-bad.result _ _ c.from_residual-in_err-bad.ensures.1 (no_run (lines_of start.script.lines) start.files start.stdin.items c.in_ok-start.ensures.prepared tt)

pub returns-in_err-dead-clause-fault : goal.returns-in_err-dead-clause-fault
returns-in_err-dead-clause-fault g c =
    let start = c.in_ok-start.start in
    at_fault c.from_residual-in_err-dead.result _ _ c.from_residual-in_err-dead.ensures.1 (no_run (lines_of start.script.lines) start.files start.stdin.items c.in_ok-start.ensures.prepared tt)

pub returns-clause-ran : goal.returns-clause-ran
returns-clause-ran g c =
    let start = c.in_ok-start.start in
    let lines = lines_of start.script.lines in
    let given = files start.files in
    let run = c.in_ok-reasoned.reasoned in
    let same = c.in_ok-start.ensures.profile in
    record {
      ran = record {
        lines = lines;
        given = start.files;
        stdin = start.stdin.items;
        starts = c.in_ok-start.ensures.prepared;
        gives = subst (λ profile. IsReasoned profile lines start.stdin.items given run) same (subst (λ s. IsReasoned start.script.profile lines s given run) c.as_slice-stdin.ensures.value c.in_ok-reasoned.ensures.gives);
      };
      known = subst (λ profile. IsKnownIf c.args.request.now.finds_diagnostics profile lines start.stdin.items start.files c.in_ok-known.known) same c.in_ok-known.ensures;
    }
