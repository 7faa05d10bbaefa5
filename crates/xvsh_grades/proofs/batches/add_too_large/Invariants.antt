use Rattle.std.proofs.Common.{◌≡◌, List, ◌++◌, map, take}
use Rattle.std.specs.List.{AllZip}
use Rattle.xvsh_grades.specs.Marks.{IsTooLong}
use Rattle.xvsh_grades.specs.declared.marks.Mark.{Mark}
use Rattle.xvsh_grades.proofs.batches.add_too_large.Given as goal

-- the tests so far have their marks
abbrev pub invariant-loop-test : goal.invariant-loop-test
invariant-loop-test l =
    (more : List Mark) × (l.marks.items ≡ l.fn.marks.items ++ more) × AllZip (IsTooLong l.path) (map (λ test. test.now) (take l.test-index l.tests)) more
