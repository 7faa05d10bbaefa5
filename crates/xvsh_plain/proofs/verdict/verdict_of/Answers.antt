use Rattle.std.proofs.Common.{◌≡◌, ◌↔◌, [], subst}
use Rattle.std.specs.Prelude.{All}
use Rattle.mem_files.specs.Files.{files}
use Rattle.script_load.specs.Line.{lines_of}
use Rattle.meaning_model.specs.Settled.{IsSettledScript}
use Rattle.plain_run.specs.Reasons.{IsReason}
use Rattle.xvsh_plain.proofs.verdict.verdict_of.Goals as goal

pub returns-clause-why : goal.returns-clause-why
returns-clause-why c =
    let start = c.args.start.now in
    let profile = start.script.profile in
    let lines = lines_of start.script.lines in
    let F = files start.files in
    let reasons = c.in-Ok.reasoned.reasons.items in
    record {
      each = subst (λ s. All (IsReason profile lines s F) reasons) c.as_slice-stdin.ensures.value c.in-Ok.ensures.each;
      none = subst (λ s. (reasons ≡ []) ↔ IsSettledScript profile lines s F) c.as_slice-stdin.ensures.value c.in-Ok.ensures.none;
    }
