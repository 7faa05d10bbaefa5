use Rattle.std.proofs.Common.{◌≤◌, ◌<◌, ℕ, List, sym, subst, length, take, get_or, rules, arith}
use Rattle.std.specs.Prelude.{All}
use Rattle.std.proofs.lemmas.List.{take_more}
use Rattle.script_load.specs.Line.{lines_of}
use Rattle.order_search.proofs.Telling.{one_more, whole_take}
use Rattle.grade_jobs.specs.Ways.{RunsRight}
use Rattle.grade_jobs.specs.declared.ways.Way.{Way}
use Rattle.grade_jobs.specs.declared.ways.Way.TheVariants.{InOrder}
use Rattle.kernel_runs.specs.declared.ordering.Order.TheVariants.{Kernel}
use Rattle.grade_jobs.proofs.every_way.judge_ways.Goals as goal

pub loop-way-preserved : goal.loop-way-preserved
loop-way-preserved g c =
    let P : Way → Type 0 = RunsRight c.args.task.now (lines_of c.args.script.now.lines) in
    let ways : List Way = c.args.ways.now in
    let n : ℕ = c.loop-way.way-index in
    let item : Way = get_or ways n (InOrder Kernel) in
    let within : n < length ways = omega arith in
    let here : P item = c.in_ok-verdict.ensures.right (search rules) in
    subst (All P) (sym (take_more ways n (InOrder Kernel) within)) (one_more P (take n ways) item c.loop-way.invariant here)

pub returns-clause-right : goal.returns-clause-right
returns-clause-right g c = λ none.
    let P : Way → Type 0 = RunsRight c.args.task.now (lines_of c.args.script.now.lines) in
    let over : length c.args.ways.now ≤ c.loop-way.way-index = omega arith in
    subst (All P) (whole_take c.loop-way.way-index c.args.ways.now over) c.loop-way.invariant
