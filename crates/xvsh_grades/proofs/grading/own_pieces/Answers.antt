use Rattle.std.proofs.Common.{◌+◌, refl, subst, sym, take}
use Rattle.std.specs.List.{AllZip}
use Rattle.xvsh_grades.specs.Jobs.{IsOwnPiece}
use Rattle.xvsh_grades.specs.Marks.{own_tests}
use Rattle.xvsh_grades.proofs.Own.{no_piece, one_piece}
use Rattle.xvsh_grades.proofs.grading.own_pieces.Goals as goal
use Rattle.xvsh_grades.proofs.grading.own_pieces.Goals.{in-Some+in_ok-push-in-Some, in-None}

pub loop-test-preserved : goal.loop-test-preserved
loop-test-preserved c =
    let tests = c.args.tests.now in
    let i = c.loop-test.test-index in
    let x = c.test-item.result in
    let before = c.loop-test.invariant in
    let inside = c.loop-test-test.true in
    elim c.match-test.branch [
      | in-Some+in_ok-push-in-Some w ↦ subst (λ pieces. AllZip IsOwnPiece (own_tests (take (i + 1) tests)) pieces.items) (sym w.pieces-is)
          (one_piece tests i x inside c.test-item.is c.loop-test.pieces.items w.push.new.self.items _ before w.in-Some.is (record { script = refl; test = refl; bytes = w.as_slice.ensures.value }) w.in_ok-push-in-Some.ensures.items)
      | in-None w ↦ subst (λ pieces. AllZip IsOwnPiece (own_tests (take (i + 1) tests)) pieces.items) (sym w.pieces-is)
          (no_piece tests i x inside c.test-item.is c.loop-test.pieces.items before w.in-None.is)
    ]
