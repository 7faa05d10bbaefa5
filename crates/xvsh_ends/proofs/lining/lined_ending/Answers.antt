use Rattle.std.proofs.Common.{◌≡◌, ◌∙◌, ap, sym, subst}
use Rattle.xvsh_read.specs.Status.{status_code}
use Rattle.xvsh_read.specs.Writing.{out_text}
use Rattle.xvsh_traces.specs.Lined.{IsLined, plain_lined}
use Rattle.xvsh_ends.specs.Ends.{Due, asks_lined, lined, told_text}
use Rattle.xvsh_ends.proofs.Dues.{due_memory}
use Rattle.xvsh_ends.proofs.lining.lined_ending.Goals as goal

pub returns-in-Ok-Some : goal.returns-in-Ok-Some
returns-in-Ok-Some c input file what due =
    let ending = c.args.ending in
    let made = c.with_told.result in
    let told = c.in-Ok-Some.told.items in
    let is : IsLined (told_text ending) told = rw c.in-Ok-Some.field-0-is at c.in-Ok-Some.ensures in
    let says : told_text made ≡ told = c.with_told.ensures.told ∙ ap (λ v. v.items) c.in-Ok-Some.told-is in
    let plain : Due input file (asks_lined what) (out_text ending.output) told (status_code ending.status) = lined is due in
    subst (λ status. Due input file (asks_lined what) (out_text made.output) (told_text made) (status_code status)) (sym c.with_told.ensures.status)
    (subst (λ text. Due input file (asks_lined what) (out_text made.output) text (status_code ending.status)) (sym says)
    (subst (λ text. Due input file (asks_lined what) text told (status_code ending.status)) (sym c.with_told.ensures.out) plain))

pub returns-in-Ok-None : goal.returns-in-Ok-None
returns-in-Ok-None c input file what due = lined plain_lined due

pub returns-in-Err : goal.returns-in-Err
returns-in-Err c input file what due =
    due_memory input file (asks_lined what) c.report_no_memory.result c.report_no_memory.ensures
