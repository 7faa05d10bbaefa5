use Rattle.std.proofs.Common.{Some, arith, refl}
use Rattle.xvsh_grades.specs.Jobs.{IsPieceOf}
use Rattle.xvsh_grades.proofs.Growing.{grown_mapped}
use Rattle.xvsh_grades.proofs.batches.add_pieces.Goals as goal

pub loop-test-preserved : goal.loop-test-preserved
loop-test-preserved c =
    grown_mapped (λ test. test.now) (IsPieceOf (Some c.args.script.now.path.now) c.args.script.now.bytes.items) c.args.tests.now c.loop-test.test-index c.test-item.result _ c.args.pieces.now.items c.loop-test.pieces.items c.push.new.self.items
    (omega arith) c.test-item.is c.loop-test.invariant (record { script = refl; test = refl; bytes = c.as_slice.ensures.value }) c.in_ok-push.ensures.items
