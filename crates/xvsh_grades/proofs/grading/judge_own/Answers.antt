use Rattle.std.proofs.Common.{arith, ◌∙◌}
use Rattle.xvsh_grades.specs.Jobs.{IsMarkOf}
use Rattle.xvsh_grades.proofs.Growing.{grown_by}
use Rattle.xvsh_grades.proofs.grading.judge_own.Goals as goal

pub batches-preserved : goal.batches-preserved
batches-preserved g c =
    let states = c.batches.invariant in
    record {
      within = omega arith;
      found = grown_by IsMarkOf c.args.pieces.now c.batches.done c.min-end.result c.args.book.now.marks.items c.batches.book.marks.items c.mark_all.new.marks.items (omega arith) states.found c.in_ok-mark_all.ensures;
      waiting = states.waiting;
      stays = c.graded.ensures.stays ∙ states.stays;
    }
