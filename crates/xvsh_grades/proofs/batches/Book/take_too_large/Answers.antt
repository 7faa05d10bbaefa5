use Rattle.std.proofs.Common.{None, map}
use Rattle.xvsh_grades.proofs.Books.{of_more_marks}
use Rattle.xvsh_grades.proofs.batches.Book.take_too_large.Goals as goal

pub returns-clause-holds : goal.returns-clause-holds
returns-clause-holds g c =
    let others = map (λ test. test.now) c.args.plan.now.tests.now in
    let found = c.in_ok-add_too_large.ensures in
    λ own reads h. of_more_marks own others reads (record { path = c.args.path.now; bytes = None }) c.judge_waiting.new.self.marks.items found.0 _ (c.in_ok-judge_waiting.ensures.holds own reads h) found.2 found.1 c.in_ok-judge_waiting.ensures.empty
