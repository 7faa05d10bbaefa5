use Rattle.std.proofs.Common.{ap, arith, length, refl}
use Rattle.std.specs.Vec.Iter.{into_iter_items}
use Rattle.xvsh_grades.specs.Jobs.{IsMarkOf}
use Rattle.xvsh_grades.proofs.Growing.{grown, next_found}
use Rattle.xvsh_grades.proofs.marks.add_marks.Goals as goal

pub loop-piece-preserved : goal.loop-piece-preserved
loop-piece-preserved c =
    let states = c.loop-piece.invariant in
    let pieces = c.args.pieces.now in
    let i = c.loop-piece.piece-index in
    let p = c.piece-item.result in
    let came = c.in-Some.ensures.cases in
    let next = next_found pieces i p (into_iter_items c.loop-piece.left) (into_iter_items c.next.new.self) c.in-Some.verdict c.loop-piece-test.true c.piece-item.is states.left came.0 in
    record {
      left = next.1;
      long = omega (arith, came.1, states.long, ap length came.0);
      found = grown IsMarkOf pieces i p _ c.args.marks.now.items c.loop-piece.marks.items c.push.new.self.items c.loop-piece-test.true c.piece-item.is states.found (record { script = refl; test = refl; found = next.0 }) c.in_ok-push.ensures.items;
    }
