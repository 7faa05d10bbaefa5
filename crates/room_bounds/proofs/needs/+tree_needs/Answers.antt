use Rattle.std.proofs.Common.{sym, ap, ap₂, ◌∙◌, subst}
use Rattle.sh_tree.specs.Tree.{tree_of, redir, pipe, list, back}
use Rattle.room_bounds.specs.Needs.{AreNeeds}
use Rattle.room_bounds.proofs.needs.+tree_needs.Goals as goal

pub returns-in-Redir : goal.returns-in-Redir
returns-in-Redir g t c =
    let whole = ap tree_of c.in-Redir.is ∙ ap (λ b. redir c.in-Redir.mode c.in-Redir.name (tree_of b)) (sym c.deref.ensures) in
    subst (λ tree. AreNeeds tree c.of_redir.result) (sym whole) (c.of_redir.ensures c.in-Redir.name (tree_of c.deref.result.now) c.tree_needs.ensures)

pub returns-in-Pipe : goal.returns-in-Pipe
returns-in-Pipe g t c =
    let whole = ap tree_of c.in-Pipe.is ∙ ap₂ (λ l r. pipe (tree_of l) (tree_of r)) (sym c.deref-in-Pipe.ensures) (sym c.deref-in-Pipe-2.ensures) in
    subst (λ tree. AreNeeds tree c.of_pipe.result) (sym whole) (c.of_pipe.ensures (tree_of c.deref-in-Pipe.result.now) (tree_of c.deref-in-Pipe-2.result.now) c.tree_needs-in-Pipe.ensures c.tree_needs-in-Pipe-2.ensures)

pub returns-in-List : goal.returns-in-List
returns-in-List g t c =
    let whole = ap tree_of c.in-List.is ∙ ap₂ (λ l r. list (tree_of l) (tree_of r)) (sym c.deref-in-List.ensures) (sym c.deref-in-List-2.ensures) in
    subst (λ tree. AreNeeds tree c.of_list.result) (sym whole) (c.of_list.ensures (tree_of c.deref-in-List.result.now) (tree_of c.deref-in-List-2.result.now) c.tree_needs-in-List.ensures c.tree_needs-in-List-2.ensures)

pub returns-in-Back : goal.returns-in-Back
returns-in-Back g t c =
    let whole = ap tree_of c.in-Back.is ∙ ap (λ b. back (tree_of b)) (sym c.deref-in-Back.ensures) in
    subst (λ tree. AreNeeds tree c.of_back.result) (sym whole) (c.of_back.ensures (tree_of c.deref-in-Back.result.now) c.tree_needs-in-Back.ensures)
