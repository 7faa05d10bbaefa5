use Rattle.std.proofs.Common.{◌-◌, sym, ap, ap₂, ◌∙◌, subst}
use Rattle.sh_tree.specs.Tree.{tree_of, pipe, list}
use Rattle.step_bounds.specs.Cost.{IsGrownBy}
use Rattle.step_bounds.proofs.Grown.{beside, behind}
use Rattle.step_bounds.proofs.bytes.+tree_grown.Goals as goal

pub returns-in-Some-tree_grown : goal.returns-in-Some-tree_grown
returns-in-Some-tree_grown g t c =
    let a = c.args in
    let left = tree_of c.deref-in-Pipe.result.now in
    let right = tree_of c.deref-in-Some.result.now in
    let first = c.in-Some.first in
    let whole = ap tree_of c.in-Pipe.is ∙ ap₂ (λ l r. pipe (tree_of l) (tree_of r)) (sym c.deref-in-Pipe.ensures) (sym c.deref-in-Some.ensures) in
    let one = subst (IsGrownBy left a.input a.files.now a.grown) c.in-Some.is c.tree_grown-in-Pipe.ensures in
    let other = subst (IsGrownBy right (first - a.grown) a.files.now a.grown) c.in-Some-tree_grown.is c.tree_grown-in-Some.ensures in
    subst (λ tree. IsGrownBy tree a.input a.files.now a.grown c.plus.result) (sym whole)
    (beside a.files.now a.input a.grown left right first one c.in-Some-tree_grown.second c.plus.result other c.plus.ensures)

pub returns-in-Some-tree_grown-2 : goal.returns-in-Some-tree_grown-2
returns-in-Some-tree_grown-2 g t c =
    let a = c.args in
    let left = tree_of c.deref-in-List.result.now in
    let right = tree_of c.deref-in-Some-tree_grown-2.result.now in
    let whole = ap tree_of c.in-List.is ∙ ap₂ (λ l r. list (tree_of l) (tree_of r)) (sym c.deref-in-List.ensures) (sym c.deref-in-Some-tree_grown-2.ensures) in
    let one = subst (IsGrownBy left a.input a.files.now a.grown) c.in-Some-tree_grown-2.is c.tree_grown-in-List.ensures in
    subst (λ tree. IsGrownBy tree a.input a.files.now a.grown c.tree_grown-in-Some-tree_grown-2.result) (sym whole)
    (behind a.files.now a.input a.grown left right c.in-Some-tree_grown-2.first one c.tree_grown-in-Some-tree_grown-2.result c.tree_grown-in-Some-tree_grown-2.ensures)
