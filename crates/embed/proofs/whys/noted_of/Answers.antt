use Rattle.std.proofs.Common.{◌≡◌, ◌↔◌, [], None, IsTrue, inl, inr, sym, subst}
use Rattle.script_load.specs.Line.{lines_of}
use Rattle.script_notes.specs.Noted.{IsNoted}
use Rattle.script_notes.specs.Values.{values_of}
use Rattle.xvsh_checks.proofs.Reasoned.{are_whys}
use Rattle.embed.proofs.whys.noted_of.Goals as goal

pub returns-in-Err-clause-fault : goal.returns-in-Err-clause-fault
returns-in-Err-clause-fault c = inl c.in-Err.ensures.fault

pub returns-in-Err-find_whys-clause-fault : goal.returns-in-Err-find_whys-clause-fault
returns-in-Err-find_whys-clause-fault c =
    let begun = c.args.begun.now in
    inr (c.of_whys_fault.ensures begun.script.profile (lines_of begun.script.lines) c.args.task.now.stdin.now begun.files c.in-Err-find_whys.ensures.fault)

pub returns-in-Ok-find_whys-clause-told : goal.returns-in-Ok-find_whys-clause-told
returns-in-Ok-find_whys-clause-told c =
    let begun = c.args.begun.now in
    let task = c.args.task.now in
    let noted = c.in-Ok-find_whys.noted in
    let found = c.in-Ok-find_whys.ensures in
    are_whys task.script.now begun.script.profile (lines_of begun.script.lines) task.stdin.now begun.files noted
    (subst (λ ns. IsNoted task.script.now (values_of ns)) (sym found.notes) c.in-Ok.ensures.notes)
    found.missing found.lack found.each found.none
    (subst (λ ns. IsTrue noted.is_fine ↔ ((ns ≡ []) × (noted.missing.items ≡ []) × (noted.lack ≡ None) × (noted.reasons.items ≡ []))) (sym found.notes) found.fine)
