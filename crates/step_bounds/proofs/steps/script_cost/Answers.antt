use Rattle.std.proofs.Common.{◌≡◌, ◌+◌, ◌<◌, length, get_or, drop, ap, subst, arith}
use Rattle.std.specs.Prelude.{map}
use Rattle.script_load.specs.Line.{line_of}
use Rattle.meaning_model.specs.Meaning.{line_tree, script_tree}
use Rattle.tree_model.specs.Bound.{tree_bytes, tree_steps}
use Rattle.step_bounds.specs.Cost.{IsCost, sizes_grown}
use Rattle.step_bounds.specs.declared.capped.TheConstants.{MAX_STEPS}
use Rattle.step_bounds.proofs.Lines.{IsCostTo, next_line, one_more, too_many}
use Rattle.step_bounds.proofs.steps.script_cost.Goals as goal

pub returns-in-None : goal.returns-in-None
returns-in-None g c =
    let lines = c.args.lines.now in
    let files = c.args.files.now in
    let n = c.args.input in
    let i = c.loop-line.line-index in
    let b = c.loop-line.so_far.0 in
    let line = line_of (get_or lines i c.line-item.result) in
    let later = map line_of (drop (i + 1) lines) in
    let whole = script_tree (map line_of lines) in
    let inside : i < length lines = omega arith in
    let so_far = subst (λ ls. IsCostTo files n whole ls b c.loop-line.so_far.1.0) (next_line lines i c.line-item.result inside) c.loop-line.invariant.0 in
    let same : b ≡ 0 + b = omega arith in
    let cost = subst (λ l. IsCost b (tree_bytes (line_tree l) n (sizes_grown files b)) (tree_steps (line_tree l) n (sizes_grown files b)) c.line_cost.result) (ap line_of c.line-item.is) c.line_cost.ensures in
    let bytes = tree_bytes (line_tree line) n (sizes_grown files b) in
    let steps = tree_steps (line_tree line) n (sizes_grown files b) in
    too_many files n whole line later b c.loop-line.so_far.1.0 so_far MAX_STEPS
    (c.in-None.ensures 0 b bytes steps c.loop-line.invariant.1 (subst (λ k. IsCost k bytes steps c.line_cost.result) same cost))

pub loop-line-preserved : goal.loop-line-preserved
loop-line-preserved g c =
    let lines = c.args.lines.now in
    let files = c.args.files.now in
    let n = c.args.input in
    let i = c.loop-line.line-index in
    let b = c.loop-line.so_far.0 in
    let line = line_of (get_or lines i c.line-item.result) in
    let later = map line_of (drop (i + 1) lines) in
    let whole = script_tree (map line_of lines) in
    let inside : i < length lines = omega arith in
    let so_far = subst (λ ls. IsCostTo files n whole ls b c.loop-line.so_far.1.0) (next_line lines i c.line-item.result inside) c.loop-line.invariant.0 in
    let same : b ≡ 0 + b = omega arith in
    let cost = subst (λ l. IsCost b (tree_bytes (line_tree l) n (sizes_grown files b)) (tree_steps (line_tree l) n (sizes_grown files b)) c.line_cost.result) (ap line_of c.line-item.is) c.line_cost.ensures in
    let bytes = tree_bytes (line_tree line) n (sizes_grown files b) in
    let steps = tree_steps (line_tree line) n (sizes_grown files b) in
    let now = c.in-Some.ensures 0 b bytes steps c.loop-line.invariant.1 (subst (λ k. IsCost k bytes steps c.line_cost.result) same cost) in
    (one_more files n whole line later b c.loop-line.so_far.1.0 so_far c.in-Some.cost.bytes c.in-Some.cost.steps now.0 now.1, c.in-Some.cost.few, c.in-Some.cost.within)
