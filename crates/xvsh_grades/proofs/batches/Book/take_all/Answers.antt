use Rattle.std.proofs.Common.{[], ◌∷◌, ◌++◌, None, arith, subst, ◌∙◌, get_or}
use Rattle.std.specs.Borrow.{Bor}
use Rattle.xvsh_read.specs.Path.{Path}
use Rattle.xvsh_read.specs.Reading.{told_at}
use Rattle.xvsh_grades.specs.Marks.{IsReadAt}
use Rattle.xvsh_grades.proofs.Growing.{one_more_at}
use Rattle.xvsh_grades.proofs.batches.Book.take_all.Goals as goal

pub loop-path-preserved : goal.loop-path-preserved
loop-path-preserved g c =
    let states = c.loop-path.invariant in
    let took = c.in_ok-take.ensures.holds in
    let i = c.loop-path.path-index in
    let d : Bor Path = record { ref_ptr = (0, 0); now = [] } in
    record {
      reads = states.reads ++ took.0 ∷ [];
      read = one_more_at (IsReadAt (told_at None (g.H.Host.file c.args.host.now))) c.args.paths.now states.reads i d took.0 (omega arith) states.read
          (subst (λ file. IsReadAt (told_at None file) (get_or c.args.paths.now i d) took.0) states.stays took.1);
      holds = λ own h. took.2 own states.reads (states.holds own h);
      stays = c.take.ensures.stays ∙ states.stays;
    }
