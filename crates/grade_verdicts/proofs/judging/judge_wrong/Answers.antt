use Rattle.std.proofs.Common.{refl, subst}
use Rattle.std.specs.Prelude.{All, Contains}
use Rattle.std.proofs.lemmas.List.Elements.{All-contains}
use Rattle.script_load.specs.Line.{lines_of}
use Rattle.sh_machine.specs.Turn.{call_of, next_of}
use Rattle.order_search.specs.Told.{IsReplayed}
use Rattle.grade_verdicts.specs.Agrees.{AgreesWith}
use Rattle.grade_verdicts.specs.Judged.{start_of}
use Rattle.grade_verdicts.proofs.Known.{any_of, wrong_in_every_order}
use Rattle.grade_verdicts.proofs.judging.judge_wrong.Goals as goal

pub wrong-requires-clause-whole : goal.wrong-requires-clause-whole
wrong-requires-clause-whole c = λ whole.
    let task = c.args.task.now in
    let outcomes = c.args.found.now.outcomes.items in
    wrong_in_every_order task (lines_of c.args.script.now.lines) outcomes c.args.other.now (c.requires.complete whole) c.requires.among
    (subst (All (λ outcome. AgreesWith task.expected.now outcome → ⊥)) c.as_slice-2.ensures.value (c.first_right.ensures.none c.in-None.is))

pub returns-in_ok-wrong-in-Some-clause-due : goal.returns-in_ok-wrong-in-Some-clause-due
returns-in_ok-wrong-in-Some-clause-due c =
    let start = start_of c.args.task.now (lines_of c.args.script.now.lines) in
    let outcomes = c.args.found.now.outcomes.items in
    let right = c.in-Some.outcome.now in
    let other = c.args.other.now in
    record {
      right = right;
      wrong = other;
      to_right = c.in_ok-right-in-Some.ensures;
      to_wrong = c.in_ok-wrong-in-Some.ensures;
      replayed = All-contains (IsReplayed call_of next_of start) outcomes right c.requires.sound (subst (λ list. Contains list right) c.as_slice-2.ensures.value c.in-Some.ensures.among);
      agrees = c.in-Some.ensures.agrees;
      other = record { replayed = All-contains (IsReplayed call_of next_of start) outcomes other c.requires.sound c.requires.among; differs = c.requires.differs };
    }

pub returns-in_ok-wrong-in-Some-clause-race : goal.returns-in_ok-wrong-in-Some-clause-race
returns-in_ok-wrong-in-Some-clause-race c =
    let right = c.in-Some.outcome.now in
    let found = any_of (AgreesWith c.args.task.now.expected.now) c.args.found.now.outcomes.items right (subst (λ list. Contains list right) c.as_slice-2.ensures.value c.in-Some.ensures.among) c.in-Some.ensures.agrees in
    (λ _. found, λ _. (record { right = c.in_ok-right-in-Some.right; wrong = c.in_ok-wrong-in-Some.wrong; difference = c.in_ok-difference.difference }, refl))
