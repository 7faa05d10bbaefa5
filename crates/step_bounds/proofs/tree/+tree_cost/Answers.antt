use Rattle.std.proofs.Common.{sym, ap, ap₂, ◌∙◌, subst}
use Rattle.sh_tree.specs.Tree.{tree_of, redir, pipe, list}
use Rattle.step_bounds.specs.Cost.{IsCostOf}
use Rattle.step_bounds.proofs.Costs.{redir_cost, pipe_cost, list_cost}
use Rattle.step_bounds.proofs.tree.+tree_cost.Goals as goal

pub returns-in-Redir : goal.returns-in-Redir
returns-in-Redir g t c =
    let a = c.args in
    let mode = c.in-Redir.mode in
    let file = c.as_slice-in-Redir.result.now in
    let whole = ap tree_of c.in-Redir.is ∙ ap (λ n. redir mode n (tree_of c.in-Redir.body.value)) (sym c.as_slice-in-Redir.ensures) ∙ ap (λ b. redir mode file (tree_of b)) (sym c.deref.ensures) in
    subst (λ tree. IsCostOf tree a.input a.files.now a.grown c.redirected.result) (sym whole)
    (redir_cost a.files.now a.input a.grown mode file (tree_of c.deref.result.now) c.input_under.result c.tree_cost.result c.redirected.result (c.input_under.ensures ∙ ap (λ n. Rattle.tree_model.specs.Bound.input_under mode a.input n) c.size_of-size.ensures) c.tree_cost.ensures c.redirected.ensures)

pub returns-in-Some : goal.returns-in-Some
returns-in-Some g t c =
    let a = c.args in
    let whole = ap tree_of c.in-Pipe.is ∙ ap₂ (λ l r. pipe (tree_of l) (tree_of r)) (sym c.deref-in-Pipe.ensures) (sym c.deref-in-Some.ensures) in
    subst (λ tree. IsCostOf tree a.input a.files.now a.grown c.both.result) (sym whole)
    (pipe_cost a.files.now a.input a.grown (tree_of c.deref-in-Pipe.result.now) (tree_of c.deref-in-Some.result.now) c.in-Some.first c.tree_cost-in-Some.result c.both.result c.in-Some.ensures c.in-Some.first.few c.both.ensures c.tree_cost-in-Some.ensures)

pub returns-in-Some-plus : goal.returns-in-Some-plus
returns-in-Some-plus g t c =
    let a = c.args in
    let whole = ap tree_of c.in-List.is ∙ ap₂ (λ l r. list (tree_of l) (tree_of r)) (sym c.deref-in-List.ensures) (sym c.deref-in-Some-plus.ensures) in
    subst (λ tree. IsCostOf tree a.input a.files.now a.grown c.both-in-Some-plus.result) (sym whole)
    (list_cost a.files.now a.input a.grown (tree_of c.deref-in-List.result.now) (tree_of c.deref-in-Some-plus.result.now) c.in-Some-tree_cost.first c.tree_cost-in-Some-plus.result c.both-in-Some-plus.result c.in-Some-tree_cost.ensures c.in-Some-tree_cost.first.few c.both-in-Some-plus.ensures
    c.in-Some-plus.grown c.in-Some-plus.ensures.0 c.tree_cost-in-Some-plus.ensures)
