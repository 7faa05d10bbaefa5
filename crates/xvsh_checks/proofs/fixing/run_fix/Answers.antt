use Rattle.std.proofs.Common.{◌∙◌, sym, subst}
use Rattle.std.specs.Prelude.{IfErr, IfOk, MatchOption}
use Rattle.mem_files.specs.Files.{files}
use Rattle.script_load.specs.Line.{lines_of}
use Rattle.xvsh_read.specs.Reading.{Agree, told_at}
use Rattle.xvsh_read.specs.Starting.{unread_script}
use Rattle.xvsh_read.proofs.Faults.{at_fault}
use Rattle.xvsh_checks.specs.Fixes.{HasNoFix, IsFix, IsFixFault}
use Rattle.xvsh_checks.specs.Whys.{no_notes, no_whys_start}
use Rattle.xvsh_checks.proofs.Fixed.{fault_result, ran_result}
use Rattle.xvsh_checks.proofs.fixing.run_fix.Goals as goal

pub returns-in_err-bytes-clause-fault : goal.returns-in_err-bytes-clause-fault
returns-in_err-bytes-clause-fault g c =
    at_fault c.from_residual.result _ _ c.from_residual.ensures.1 (no_notes (unread_script c.in_err-bytes.ensures.fault))

pub returns-in_err-start-clause-fault : goal.returns-in_err-start-clause-fault
returns-in_err-start-clause-fault g c =
    let input = g.H.Host.input c.args.host.now in
    let file = g.H.Host.file c.args.host.now in
    at_fault c.from_residual-in_err-start.result _ _ c.from_residual-in_err-start.ensures.1 (no_whys_start (c.in_err-start.ensures.fault input file c.read.ensures.files_stay c.read.ensures.input_stays
    (subst (Agree (told_at input file c.args.request.now.source.script.now)) (sym c.as_slice.ensures.value) c.in_ok-bytes.ensures.bytes)))

pub returns-clause-ran : goal.returns-clause-ran
returns-clause-ran g c =
    let input = g.H.Host.input c.args.host.now in
    let file = g.H.Host.file c.args.host.now in
    let source = c.args.request.now.source in
    let start = c.in_ok-start.start in
    let bytes = c.as_slice-2.result.now in
    let starts = c.in_ok-start.ensures.prepared input file c.read.ensures.files_stay c.read.ensures.input_stays (subst (Agree (told_at input file source.script.now)) (sym c.as_slice.ensures.value) c.in_ok-bytes.ensures.bytes) in
    ran_result input file source.profile source.script.now source.files.now (lines_of start.script.lines) start.files start.stdin.items bytes c.mended.result (λ text. text.items)
    (starts.0, starts.1 ∙ c.as_slice.ensures.value ∙ sym c.as_slice-2.ensures.value)
    (subst (λ p. IfOk c.mended.result (λ found. MatchOption found (HasNoFix p start.stdin.items (files start.files) bytes) (λ text. IsFix p start.stdin.items (files start.files) bytes text.items))) c.in_ok-start.ensures.profile c.mended.ensures.found)

pub returns-clause-fault : goal.returns-clause-fault
returns-clause-fault g c =
    let input = g.H.Host.input c.args.host.now in
    let file = g.H.Host.file c.args.host.now in
    let source = c.args.request.now.source in
    let start = c.in_ok-start.start in
    let bytes = c.as_slice-2.result.now in
    let starts = c.in_ok-start.ensures.prepared input file c.read.ensures.files_stay c.read.ensures.input_stays (subst (Agree (told_at input file source.script.now)) (sym c.as_slice.ensures.value) c.in_ok-bytes.ensures.bytes) in
    fault_result input file source.profile source.script.now source.files.now (lines_of start.script.lines) start.files start.stdin.items bytes c.mended.result
    (subst (Agree (told_at input file source.script.now)) (sym c.as_slice-2.ensures.value) c.in_ok-bytes.ensures.bytes)
    (starts.0, starts.1 ∙ c.as_slice.ensures.value ∙ sym c.as_slice-2.ensures.value)
    (subst (λ p. IfErr c.mended.result (IsFixFault p start.stdin.items (files start.files) bytes)) c.in_ok-start.ensures.profile c.mended.ensures.fault)
