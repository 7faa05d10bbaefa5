use Rattle.std.proofs.Common.{◌≡◌, ◌∙◌, true, IfSome, map, sym, subst}
use Rattle.script_load.specs.Line.{lines_of}
use Rattle.sh_machine.specs.Turn.{call_of, next_of}
use Rattle.run_model.specs.ScriptRun.{script_kernel}
use Rattle.kernel_model.specs.Explored.{AreAllOutcomes, IsNeverStuck}
use Rattle.order_search.specs.Told.{outcome_by, LeadsToSleep}
use Rattle.grade_verdicts.specs.Judged.{start_of}
use Rattle.grade_verdicts.proofs.searching.every_end.Goals as goal

pub returns-clause-complete : goal.returns-clause-complete
returns-clause-complete c = λ whole.
    let task = c.args.task.now in
    let lines = lines_of c.args.script.now.lines in
    let found = c.in_ok-found.found in
    let was : found.whole ≡ true = sym c.in_ok-add_ends.ensures.whole ∙ whole in
    let all = subst (λ profile. AreAllOutcomes call_of next_of (script_kernel profile lines task.stdin.now task.files.now) (map outcome_by found.outcomes.items)) c.requires.profile (c.in_ok-found.ensures.complete was) in
    subst (λ outcomes. AreAllOutcomes call_of next_of (start_of task lines) (map outcome_by outcomes.items)) (sym (c.in_ok-add_ends.ensures.same was)) all

pub returns-clause-awake : goal.returns-clause-awake
returns-clause-awake c = λ whole none.
    let task = c.args.task.now in
    let lines = lines_of c.args.script.now.lines in
    let was : c.in_ok-found.found.whole ≡ true = sym c.in_ok-add_ends.ensures.whole ∙ whole in
    subst (λ profile. IsNeverStuck call_of next_of (script_kernel profile lines task.stdin.now task.files.now)) c.requires.profile (c.in_ok-found.ensures.awake was (sym c.in_ok-add_ends.ensures.stuck ∙ none))

pub returns-clause-asleep : goal.returns-clause-asleep
returns-clause-asleep c =
    let task = c.args.task.now in
    let lines = lines_of c.args.script.now.lines in
    let found = c.in_ok-found.found in
    let sleeps = subst (λ profile. IfSome found.stuck (λ pids. LeadsToSleep call_of next_of (script_kernel profile lines task.stdin.now task.files.now) pids.items)) c.requires.profile c.in_ok-found.ensures.asleep in
    subst (λ stuck. IfSome stuck (λ pids. LeadsToSleep call_of next_of (start_of task lines) pids.items)) (sym c.in_ok-add_ends.ensures.stuck) sleeps
