use Rattle.std.proofs.Common.{◌∙◌, ap, subst}
use Rattle.std.specs.Prelude.{map, string_bytes}
use Rattle.xvsh.specs.Drive.{IsDueOn, of_no_memory}
use Rattle.xvsh.proofs.driver.ending_on.Goals as goal

pub returns-in-Ok-clause-due : goal.returns-in-Ok-clause-due
returns-in-Ok-clause-due g c some =
    let same = ap (map string_bytes) c.as_slice.ensures.value ∙ c.in-Ok.ensures in
    subst (λ words. IsDueOn (g.H.Host.input c.args.host.now) (g.H.Host.file c.args.host.now) words c.words_ending.result) same c.words_ending.ensures.due

pub returns-in-Err-clause-due : goal.returns-in-Err-clause-due
returns-in-Err-clause-due g c some = of_no_memory c.report_no_memory.ensures
