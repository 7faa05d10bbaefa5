use Rattle.std.proofs.Common.{is_some, take}
use Rattle.xvsh_grades.specs.Marks.{IsOwnMark}
use Rattle.embed.proofs.Marked.{AreMarked}
use Rattle.embed.proofs.marking.own_marks.Given as goal

abbrev pub invariant-loop-test : goal.invariant-loop-test
invariant-loop-test l = AreMarked (λ test. is_some test.script) IsOwnMark (take l.test-index l.tests) l.marks.items
