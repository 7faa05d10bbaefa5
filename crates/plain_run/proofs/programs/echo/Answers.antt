use Rattle.std.proofs.Common.{rules, refl, ◌++◌, ◌∷◌, [], arith}
use Rattle.std.proofs.lemmas.Grind.{common_steps}
use Rattle.plain_run.proofs.Extending.{extends_more}
use Rattle.plain_run.proofs.programs.echo.Goals as goal

pub loop-i-preserved : goal.loop-i-preserved
loop-i-preserved g c = (
  grind (arith, common_steps),
  extends_more c.args.out.now.items (c.loop-i.out.items ++ c.as_slice.result.now) c.push.new.self.items (c.if-i-arguments.push ∷ []) (extends_more c.args.out.now.items c.loop-i.out.items (c.loop-i.out.items ++ c.as_slice.result.now) c.as_slice.result.now c.loop-i.invariant.1 refl) (search rules),
)
