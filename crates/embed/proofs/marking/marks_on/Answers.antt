use Rattle.std.proofs.Common.{◌+◌, Some, ap, codes, is_none, not, subst, sym, take, ◌∙◌}
use Rattle.xvsh_grades.specs.Marks.{IsMarkOn}
use Rattle.embed.proofs.Marked.{AreMarked, no_mark, one_mark}
use Rattle.embed.proofs.marking.marks_on.Goals as goal
use Rattle.embed.proofs.marking.marks_on.Goals.{then-is_none+in_ok-mark_of+in_ok-push, else-is_none}

pub loop-test-preserved : goal.loop-test-preserved
loop-test-preserved c =
    let tests = c.args.tests.now in
    let i = c.loop-test.test-index in
    let x = c.test-item.result in
    elim c.if-is_none.branch [
      | then-is_none+in_ok-mark_of+in_ok-push w ↦ subst (λ marks. AreMarked (λ test. is_none test.script) (IsMarkOn (Some (codes "-")) c.args.script.now) (take (i + 1) tests) marks.items) (sym w.marks-is)
          (one_mark (λ test. is_none test.script) (IsMarkOn (Some (codes "-")) c.args.script.now) tests i x c.loop-test-test.true c.test-item.is c.loop-test.marks.items w.push.new.self.items
          w.in_ok-mark_of.field-0 c.loop-test.invariant (ap not c.is_none.ensures ∙ ap (λ r. not (not r)) w.if-is_none.true) w.in_ok-mark_of.ensures.mark w.in_ok-mark_of.ensures.judged w.in_ok-push.ensures.items)
      | else-is_none w ↦ subst (λ marks. AreMarked (λ test. is_none test.script) (IsMarkOn (Some (codes "-")) c.args.script.now) (take (i + 1) tests) marks.items) (sym w.marks-is)
          (no_mark (λ test. is_none test.script) (IsMarkOn (Some (codes "-")) c.args.script.now) tests i x c.loop-test-test.true c.test-item.is c.loop-test.marks.items c.loop-test.invariant
          (ap not c.is_none.ensures ∙ ap (λ r. not (not r)) w.if-is_none.false))
    ]
