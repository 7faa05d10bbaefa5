use Rattle.std.proofs.Common.{◌≡◌, ◌↔◌, ◌∙◌, [], None, IsTrue, subst, sym}
use Rattle.std.specs.Prelude.{All}
use Rattle.mem_files.specs.Files.{files}
use Rattle.script_load.specs.Line.{lines_of}
use Rattle.script_load.specs.Script.{HasLoadFault}
use Rattle.script_notes.specs.Noted.{IsNoted}
use Rattle.script_notes.specs.Values.{values_of}
use Rattle.meaning_model.specs.Settled.{IsSettledScript}
use Rattle.plain_run.specs.Reasons.{IsReason}
use Rattle.xvsh_plain.specs.Running.{IsMeaningFault}
use Rattle.xvsh_read.specs.Reading.{Agree, told_at}
use Rattle.xvsh_read.specs.Starting.{unread_script, bad_script}
use Rattle.xvsh_read.proofs.Faults.{at_fault}
use Rattle.xvsh_read.proofs.Begins.{load_fault}
use Rattle.xvsh_checks.specs.Whys.{AreWhysOf, no_notes, no_whys_start, no_whys}
use Rattle.xvsh_checks.proofs.Reasoned.{are_whys}
use Rattle.xvsh_checks.proofs.whys.run_note_whys.Goals as goal

pub returns-in_err-bytes-clause-fault : goal.returns-in_err-bytes-clause-fault
returns-in_err-bytes-clause-fault g c =
    at_fault c.from_residual.result _ _ c.from_residual.ensures.1 (no_notes (unread_script c.in_err-bytes.ensures.fault))

pub returns-in_err-notes-clause-fault : goal.returns-in_err-notes-clause-fault
returns-in_err-notes-clause-fault g c =
    at_fault c.from_residual-in_err-notes.result _ _ c.from_residual-in_err-notes.ensures.1 (no_notes (bad_script c.in_ok-bytes.bytes.items c.in_ok-bytes.ensures.bytes (load_fault c.in_ok-bytes.bytes.items c.in_err-notes.field-0.0 (subst (λ b. HasLoadFault b c.in_err-notes.field-0.0) c.as_slice.ensures.value c.in_err-notes.ensures.fault))))

pub returns-in_err-start-clause-fault : goal.returns-in_err-start-clause-fault
returns-in_err-start-clause-fault g c =
    let input = g.H.Host.input c.args.host.now in
    let file = g.H.Host.file c.args.host.now in
    at_fault c.from_residual-in_err-start.result _ _ c.from_residual-in_err-start.ensures.1 (no_whys_start (c.in_err-start.ensures.fault input file c.read.ensures.files_stay c.read.ensures.input_stays
    (subst (Agree (told_at input file c.args.request.now.source.script.now)) (sym c.as_slice-2.ensures.value) c.in_ok-bytes.ensures.bytes)))

pub returns-in_err-noted-clause-fault : goal.returns-in_err-noted-clause-fault
returns-in_err-noted-clause-fault g c =
    let input = g.H.Host.input c.args.host.now in
    let file = g.H.Host.file c.args.host.now in
    let start = c.in_ok-start.start in
    let lines = lines_of start.script.lines in
    let fault = c.in_err-noted.field-0.0 in
    let starts = c.in_ok-start.ensures.prepared input file c.read.ensures.files_stay c.read.ensures.input_stays (subst (Agree (told_at input file c.args.request.now.source.script.now)) (sym c.as_slice-2.ensures.value) c.in_ok-bytes.ensures.bytes) in
    at_fault c.from_residual-in_err-noted.result _ _ c.from_residual-in_err-noted.ensures.1 (no_whys lines start.files start.stdin.items starts.0
    (subst (λ profile. IsMeaningFault profile lines start.stdin.items (files start.files) fault) c.in_ok-start.ensures.profile
    (subst (λ s. IsMeaningFault start.script.profile lines s (files start.files) fault) c.as_slice-stdin.ensures.value c.in_err-noted.ensures.fault)))

pub returns-clause-ran : goal.returns-clause-ran
returns-clause-ran g c =
    let input = g.H.Host.input c.args.host.now in
    let file = g.H.Host.file c.args.host.now in
    let source = c.args.request.now.source in
    let start = c.in_ok-start.start in
    let lines = lines_of start.script.lines in
    let bytes = c.in_ok-bytes.bytes.items in
    let noted = c.in_ok-noted.noted in
    let found = c.in_ok-noted.ensures in
    let notes = c.in_ok-notes.notes.items in
    let missing = noted.missing.items in
    let reasons = noted.reasons.items in
    let starts = c.in_ok-start.ensures.prepared input file c.read.ensures.files_stay c.read.ensures.input_stays (subst (Agree (told_at input file source.script.now)) (sym c.as_slice-2.ensures.value) c.in_ok-bytes.ensures.bytes) in
    let whys =
    are_whys bytes source.profile lines start.stdin.items start.files noted
    (subst (λ ns. IsNoted bytes (values_of ns)) (sym found.notes) (subst (λ b. IsNoted b (values_of notes)) c.as_slice.ensures.value c.in_ok-notes.ensures.notes))
    found.missing found.lack
    (subst (λ profile. All (IsReason profile lines start.stdin.items (files start.files)) reasons) c.in_ok-start.ensures.profile
    (subst (λ s. All (IsReason start.script.profile lines s (files start.files)) reasons) c.as_slice-stdin.ensures.value found.each))
    (subst (λ profile. (reasons ≡ []) ↔ IsSettledScript profile lines start.stdin.items (files start.files)) c.in_ok-start.ensures.profile
    (subst (λ s. (reasons ≡ []) ↔ IsSettledScript start.script.profile lines s (files start.files)) c.as_slice-stdin.ensures.value found.none))
    (subst (λ ns. IsTrue noted.is_fine ↔ ((ns ≡ []) × (missing ≡ []) × (noted.lack ≡ None) × (reasons ≡ []))) (sym found.notes) found.fine) in
    record {
      lines = lines;
      given = start.files;
      stdin = start.stdin.items;
      starts = starts.0;
      whys = subst (λ b. AreWhysOf b source.profile lines start.stdin.items start.files noted) (sym (starts.1 ∙ c.as_slice-2.ensures.value)) whys;
    }
