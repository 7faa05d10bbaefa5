use Rattle.std.proofs.Common.{◌≡◌, ◌<◌, true, length, get_or, arith, rules}
use Rattle.std.proofs.lemmas.List.Elements.{All-more}
use Rattle.step_commands.specs.Lines.{is_blank}
use Rattle.step_commands.proofs.cutting.blanks.Goals as goal

pub loop-count-preserved : goal.loop-count-preserved
loop-count-preserved c =
    let count = c.loop-count.count in
    let within : count < length c.args.line.now = search rules in
    let is : is_blank (get_or c.args.line.now count 0) ≡ true = search rules in
    (omega (arith, within), All-more (λ byte. is_blank byte ≡ true) c.args.line.now count 0 within c.loop-count.invariant.1 is)
