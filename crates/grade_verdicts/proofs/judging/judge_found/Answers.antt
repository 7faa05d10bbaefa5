use Rattle.std.proofs.Common.{◌≡◌, false, map, sym, subst, rules}
use Rattle.script_load.specs.Line.{lines_of}
use Rattle.sh_machine.specs.Turn.{call_of, next_of}
use Rattle.kernel_model.specs.Explored.{AreAllOutcomes}
use Rattle.order_search.specs.Told.{outcome_by}
use Rattle.order_search.proofs.Looking.{never}
use Rattle.grade_verdicts.specs.Judged.{start_of}
use Rattle.grade_verdicts.proofs.Known.{spent_asleep}
use Rattle.grade_verdicts.proofs.judging.judge_found.Goals as goal

pub returns-then-not-is_awake : goal.returns-then-not-is_awake
returns-then-not-is_awake c =
    let found = c.args.found.now in
    let sleeps : c.is_awake.result ≡ false = search rules in
    spent_asleep c.args.task.now (lines_of c.args.script.now.lines) (λ pids. pids.items) found.stuck (λ none. never c.is_awake.result (c.is_awake.ensures.1 none) sleeps) c.requires.asleep

pub judge_right-requires-clause-complete : goal.judge_right-requires-clause-complete
judge_right-requires-clause-complete c =
    let start = start_of c.args.task.now (lines_of c.args.script.now.lines) in
    subst (λ outcomes. AreAllOutcomes call_of next_of start (map outcome_by outcomes)) (sym c.as_slice-outcomes.ensures.value) (c.requires.complete c.if-not-found.false)
