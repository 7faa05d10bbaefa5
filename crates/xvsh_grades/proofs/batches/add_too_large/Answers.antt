use Rattle.std.proofs.Common.{arith, refl}
use Rattle.xvsh_grades.specs.Marks.{IsTooLong}
use Rattle.xvsh_grades.proofs.Growing.{grown_mapped}
use Rattle.xvsh_grades.proofs.batches.add_too_large.Goals as goal

pub loop-test-preserved : goal.loop-test-preserved
loop-test-preserved c =
    grown_mapped (λ test. test.now) (IsTooLong c.args.path.now) c.args.tests.now c.loop-test.test-index c.test-item.result _ c.args.marks.now.items c.loop-test.marks.items c.push.new.self.items
    (omega arith) c.test-item.is c.loop-test.invariant (record { script = refl; test = refl; verdict = refl }) c.in_ok-push.ensures.items
