use Rattle.std.proofs.Common.{◌≡◌, ℕ, ◌+◌, true, List, None, IsSomeAnd, ap, is_some, subst, sym, take}
use Rattle.xvsh_grades.specs.Marks.{IsMarkOn, IsOwnMark}
use Rattle.embed.proofs.Marked.{AreMarked, no_mark, one_mark}
use Rattle.embed.proofs.marking.own_marks.Goals as goal
use Rattle.embed.proofs.marking.own_marks.Goals.{in-Some+in_ok-mark_of-in-Some+in_ok-push-in-Some, in-None}

pub loop-test-preserved : goal.loop-test-preserved
loop-test-preserved c =
    let tests = c.args.tests.now in
    let i = c.loop-test.test-index in
    let x = c.test-item.result in
    elim c.match-test.branch [
      | in-Some+in_ok-mark_of-in-Some+in_ok-push-in-Some w ↦
          let mark = w.in_ok-mark_of-in-Some.field-0 in
          let on : IsMarkOn None w.in-Some.script.items x mark = subst (λ (bytes : List ℕ). IsMarkOn None bytes x mark) w.as_slice.ensures.value w.in_ok-mark_of-in-Some.ensures.mark in
          let own : IsOwnMark x mark = subst (λ o. IsSomeAnd o (λ bytes. IsMarkOn None bytes.items x mark)) (sym w.in-Some.is) on in
          let has : is_some x.script ≡ true = ap is_some w.in-Some.is in
          subst (λ marks. AreMarked (λ test. is_some test.script) IsOwnMark (take (i + 1) tests) marks.items) (sym w.marks-is)
          (one_mark (λ test. is_some test.script) IsOwnMark tests i x c.loop-test-test.true c.test-item.is c.loop-test.marks.items w.push.new.self.items mark c.loop-test.invariant has own
          w.in_ok-mark_of-in-Some.ensures.judged w.in_ok-push-in-Some.ensures.items)
      | in-None w ↦ subst (λ marks. AreMarked (λ test. is_some test.script) IsOwnMark (take (i + 1) tests) marks.items) (sym w.marks-is)
          (no_mark (λ test. is_some test.script) IsOwnMark tests i x c.loop-test-test.true c.test-item.is c.loop-test.marks.items c.loop-test.invariant (ap is_some w.in-None.is))
    ]
