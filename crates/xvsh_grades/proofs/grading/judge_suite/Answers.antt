use Rattle.std.proofs.Common.{List, [], ◌++◌, None, ap, map, sym, subst, ◌∙◌}
use Rattle.std.specs.List.{AllZip}
use Rattle.xvsh_read.specs.Reading.{told_at}
use Rattle.xvsh_grades.specs.Jobs.{IsMarkOf}
use Rattle.xvsh_grades.specs.Marks.{AreMarks, of_own, IsReadAt, own_tests}
use Rattle.xvsh_grades.specs.declared.marks.Mark.{Mark}
use Rattle.xvsh_grades.proofs.Books.{of_marks}
use Rattle.xvsh_grades.proofs.Judged.{own_marks}
use Rattle.xvsh_grades.proofs.grading.judge_suite.Goals as goal

pub returns : goal.returns
returns g c =
    let own = own_tests c.args.tests.now in
    let others = map (λ test. test.now) c.as_slice.result.now in
    let found = c.in_ok-judge_own.ensures.found in
    let took = c.in_ok-take_all.ensures.holds in
    let these = own_marks own c.in_ok-own.own.items found.0 c.in_ok-own.ensures (subst (λ pieces. AllZip IsMarkOf pieces found.0) c.as_slice-2.ensures.value found.2) in
    let begun = subst (AreMarks own others []) (sym {A = List Mark} (found.1 ∙ ap (λ t. t ++ found.0) c.new-book.ensures.marks)) (of_own these) in
    let same = ap (map (λ test. test.now)) c.as_slice.ensures.value ∙ c.in_ok-others.ensures in (
      took.0,
      subst (λ file. AllZip (IsReadAt (told_at None file)) c.args.request.now.scripts.now took.0) c.judge_own.ensures.stays took.1,
      subst (λ others. AreMarks own others took.0 c.take_all.new.self.marks.items) same (took.2 own (of_marks own others [] _ begun (ap (λ w. w.items) c.in_ok-judge_own.ensures.waiting ∙ c.new-book.ensures.waiting))),
    )
