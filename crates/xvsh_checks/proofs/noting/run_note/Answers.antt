use Rattle.std.proofs.Common.{◌≡◌, [], None, subst}
use Rattle.std.specs.Prelude.{◌↔◌, IsTrue}
use Rattle.script_load.specs.Script.{HasLoadFault}
use Rattle.script_notes.specs.Noted.{IsNoted}
use Rattle.script_notes.specs.Values.{values_of}
use Rattle.script_notes.proofs.Found.{none_found}
use Rattle.xvsh_read.specs.Starting.{unread_script, bad_script}
use Rattle.xvsh_read.proofs.Faults.{at_fault}
use Rattle.xvsh_read.proofs.Begins.{load_fault}
use Rattle.xvsh_checks.specs.Check.{no_script_told}
use Rattle.xvsh_checks.specs.Lacks.{IsLackOfText}
use Rattle.xvsh_checks.proofs.noting.run_note.Goals as goal

pub returns-in_err-bytes-clause-fault : goal.returns-in_err-bytes-clause-fault
returns-in_err-bytes-clause-fault g c =
    at_fault c.from_residual.result _ _ c.from_residual.ensures.1 (no_script_told (unread_script c.in_err-bytes.ensures.fault))

pub returns-in_err-notes-clause-fault : goal.returns-in_err-notes-clause-fault
returns-in_err-notes-clause-fault g c =
    at_fault c.from_residual-in_err-notes.result _ _ c.from_residual-in_err-notes.ensures.1 (no_script_told (bad_script c.in_ok-bytes.bytes.items c.in_ok-bytes.ensures.bytes (load_fault c.in_ok-bytes.bytes.items c.in_err-notes.field-0.0 (subst (λ b. HasLoadFault b c.in_err-notes.field-0.0) c.as_slice.ensures.value c.in_err-notes.ensures.fault))))

pub returns-in_err-lack-clause-fault : goal.returns-in_err-lack-clause-fault
returns-in_err-lack-clause-fault g c =
    at_fault c.from_residual-in_err-lack.result _ _ c.from_residual-in_err-lack.ensures.1 (no_script_told (bad_script c.in_ok-bytes.bytes.items c.in_ok-bytes.ensures.bytes (load_fault c.in_ok-bytes.bytes.items c.in_err-lack.field-0.0 (subst (λ b. HasLoadFault b c.in_err-lack.field-0.0) c.as_slice-2.ensures.value c.in_err-lack.ensures.fault))))

pub returns-clause-ran : goal.returns-clause-ran
returns-clause-ran g c =
    let bytes = c.in_ok-bytes.bytes.items in
    let notes = c.in_ok-notes.notes.items in
    let lack = c.in_ok-lack.lack in
    let is_fine = c.is_nothing_noted-is_fine.result in
    let found = subst (λ b. IsNoted b (values_of notes)) c.as_slice.ensures.value c.in_ok-notes.ensures.notes in
    let none = none_found bytes notes found in
    let fine = subst (λ ns. IsTrue is_fine ↔ ((ns ≡ []) × (lack ≡ None))) c.as_slice-3.ensures.value c.is_nothing_noted-is_fine.ensures in
    record {
      bytes = bytes;
      own = c.in_ok-bytes.ensures.bytes;
      notes = found;
      room = subst (λ b. IsLackOfText b lack) c.as_slice-2.ensures.value c.in_ok-lack.ensures.told;
      fine = (λ is. (none.0 (fine.0 is).0, (fine.0 is).1), λ both. fine.1 (none.1 both.0, both.1));
    }
