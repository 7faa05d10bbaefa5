use Rattle.std.proofs.Common.{Some, codes, is_none, take}
use Rattle.xvsh_grades.specs.Marks.{IsMarkOn}
use Rattle.embed.proofs.Marked.{AreMarked}
use Rattle.embed.proofs.marking.marks_on.Given as goal

abbrev pub invariant-loop-test : goal.invariant-loop-test
invariant-loop-test l = AreMarked (λ test. is_none test.script) (IsMarkOn (Some (codes "-")) l.script) (take l.test-index l.tests) l.marks.items
