use Rattle.std.proofs.Common.{◌≡◌, ℕ, Option, Some, ap, codes, position, subst, sym, ◌∙◌}
use Rattle.grade_tests.specs.Loads.{AreTestsAt}
use Rattle.grade_tests.specs.declared.test.Loaded.{Loaded}
use Rattle.embed.specs.Grades.{every_way, file_in, told_below}
use Rattle.embed.proofs.grading.tests_of.Goals as goal

pub returns-in-Err-clause-fault : goal.returns-in-Err-clause-fault
returns-in-Err-clause-fault c = told_below c.of_fault.ensures

pub returns-in-Some-clause-fault : goal.returns-in-Some-clause-fault
returns-in-Some-clause-fault c =
    let tests = c.in-Ok.tests.items in
    let told = subst (λ (most : Option ℕ). AreTestsAt (file_in c.args.task.now.files.now) (codes "-") (Some c.args.suite.now) most tests) c.most_by.ensures c.in-Ok.ensures.tests in
    let first : position (λ (test : Loaded). test.every_way) tests ≡ Some c.in-Some.place =
    sym (ap (position (λ (test : Loaded). test.every_way)) c.as_slice.ensures.value) ∙ sym c.first_in_every_way.ensures.first ∙ c.in-Some.is in
    every_way tests c.in-Some.place told first

pub returns-in-None-clause-tests : goal.returns-in-None-clause-tests
returns-in-None-clause-tests c =
    subst (λ (most : Option ℕ). AreTestsAt (file_in c.args.task.now.files.now) (codes "-") (Some c.args.suite.now) most c.in-Ok.tests.items) c.most_by.ensures c.in-Ok.ensures.tests
