use Rattle.std.proofs.Common.{Some, arith}
use Rattle.kernel_model.specs.Boot.{boot_kernel}
use Rattle.law_kernel.proofs.lengths.Filling.{all_spend}
use Rattle.law_kernel.proofs.lengths.Long.{as_long}
use Rattle.law_kernel.proofs.lengths.a_run_is_as_long_as_its_calls_that_dont_sleep.Goals as goal

pub returns-clause-more : goal.returns-clause-more
returns-clause-more g c = λ init shell input list events notes. omega (arith, all_spend g.M.Machine.call_of g.M.Machine.next_of events notes (Some (boot_kernel init shell input list)))

pub returns-clause-all : goal.returns-clause-all
returns-clause-all g c = λ r are. as_long g.M.Machine.call_of g.M.Machine.next_of r.init r.shell r.input r.files r.last r.schedule r.notes are r.runs
