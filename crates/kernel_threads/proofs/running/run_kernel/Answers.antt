use Rattle.std.proofs.Common.{refl}
use Rattle.kernel_threads.proofs.running.run_kernel.Goals as goal

pub returns-clause-spent : goal.returns-clause-spent
returns-clause-spent g c = λ is. c.run_as.ensures.spent is c.args.kernel.boot refl
