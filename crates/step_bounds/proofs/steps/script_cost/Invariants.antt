use Rattle.std.proofs.Common.{drop, ◌≤◌}
use Rattle.std.specs.Prelude.{map}
use Rattle.script_load.specs.Line.{line_of}
use Rattle.meaning_model.specs.Meaning.{script_tree}
use Rattle.step_bounds.specs.declared.capped.TheConstants.{MAX_STEPS}
use Rattle.step_bounds.proofs.Lines.{IsCostTo}
use Rattle.step_bounds.proofs.steps.script_cost.Given as goal

abbrev pub invariant-loop-line : goal.invariant-loop-line
invariant-loop-line g l = IsCostTo l.files l.input (script_tree (map line_of l.lines)) (map line_of (drop l.line-index l.lines)) l.so_far.0 l.so_far.1.0 × (l.so_far.0 ≤ l.so_far.1.0) × (l.so_far.1.0 ≤ MAX_STEPS)
