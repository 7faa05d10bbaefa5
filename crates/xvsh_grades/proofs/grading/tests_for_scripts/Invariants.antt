use Rattle.std.proofs.Common.{◌≡◌, map, take}
use Rattle.xvsh_grades.specs.Marks.{other_tests}
use Rattle.xvsh_grades.proofs.grading.tests_for_scripts.Given as goal

abbrev pub invariant-loop-test : goal.invariant-loop-test
invariant-loop-test l = map (λ test. test.now) l.others.items ≡ other_tests (take l.test-index l.tests)
