use Rattle.std.proofs.Common.{◌≡◌, true, false, sym, ◌∙◌}
use Rattle.embed.proofs.marking.verdict_of.Goals as goal

apart : true ≡ false → ⊥
apart e = cc

pub returns : goal.returns
returns c = record {
  t = c.task.result;
  task = c.task.ensures;
  due = c.in_ok-verdict.ensures;
  ways = λ asked. absurd (apart (sym asked ∙ c.requires));
}
