use Rattle.std.proofs.Common.{refl, sym, subst, arith}
use Rattle.tree_model.specs.ProgramBytes.{begin_bytes}
use Rattle.room_bounds.specs.CappedGrowth.{IsCapped}
use Rattle.room_bounds.proofs.program.program_bytes.Goals as goal

pub returns-in-Tee : goal.returns-in-Tee
returns-in-Tee g c n is = subst (λ p. IsCapped (begin_bytes p c.args.arguments.now n) c.times.result) (sym c.in-Tee.is) (c.times.ensures n is)

pub returns-in-Wc : goal.returns-in-Wc
returns-in-Wc g c n is = subst (λ p. IsCapped (begin_bytes p c.args.arguments.now n) c.times-in-Wc.result) (sym c.in-Wc.is) (c.times-in-Wc.ensures _ (refl, omega arith))
