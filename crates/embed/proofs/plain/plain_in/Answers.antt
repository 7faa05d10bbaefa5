use Rattle.std.proofs.Common.{◌∙◌, subst, sym, IsTrue}
use Rattle.std.specs.Prelude.{◌↔◌}
use Rattle.mem_files.specs.Files.{files}
use Rattle.script_load.specs.Line.{lines_of}
use Rattle.meaning_model.specs.Meaning.{script_meaning}
use Rattle.meaning_model.specs.Settled.{IsSettledScript}
use Rattle.embed.proofs.Agreeing.{soft_sizes}
use Rattle.embed.proofs.plain.plain_in.Goals as goal

pub returns-in-Ok-copy_of-clause-gives : goal.returns-in-Ok-copy_of-clause-gives
returns-in-Ok-copy_of-clause-gives g c =
    let value = c.in-Ok.value in
    let told = c.in-Ok-copy_of.ensures in
    let begun = c.args.begun.now in
    let meaning = script_meaning begun.script.profile (lines_of begun.script.lines) c.args.stdin.now (files begun.files) in
    record {
      prints = told.out ∙ c.in-Ok.ensures.out;
      left = value.files;
      are = c.are_files.ensures;
      leaves = c.in-Ok.ensures.files;
      sizes = told.sizes ∙ soft_sizes value.soft meaning.soft value.files c.in-Ok.ensures.soft;
      block = told.block;
      verdict = subst (λ b. IsTrue b ↔ IsSettledScript begun.script.profile (lines_of begun.script.lines) c.args.stdin.now (files begun.files)) (sym told.settled) c.in-Ok.ensures.settled;
    }
