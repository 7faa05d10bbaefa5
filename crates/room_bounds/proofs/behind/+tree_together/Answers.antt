use Rattle.std.proofs.Common.{sym, ap, ap₂, ◌∙◌, subst}
use Rattle.sh_tree.specs.Tree.{tree_of, redir, pipe, list, back}
use Rattle.room_bounds.specs.Behind.{AreTogether}
use Rattle.room_bounds.proofs.behind.+tree_together.Goals as goal

pub returns-in-Exec : goal.returns-in-Exec
returns-in-Exec g t c = subst (λ tree. AreTogether (tree_of tree) c.alone.result) (sym c.in-Exec.is) (c.alone.ensures _)

pub returns-in-Redir : goal.returns-in-Redir
returns-in-Redir g t c =
    let whole = ap tree_of c.in-Redir.is ∙ ap (λ b. redir c.in-Redir.mode c.in-Redir.name (tree_of b)) (sym c.deref.ensures) in
    subst (λ tree. AreTogether tree c.tree_together.result) (sym whole) (record { at_once = c.tree_together.ensures.at_once; behind = c.tree_together.ensures.behind })

pub returns-in-Pipe : goal.returns-in-Pipe
returns-in-Pipe g t c =
    let whole = ap tree_of c.in-Pipe.is ∙ ap₂ (λ l r. pipe (tree_of l) (tree_of r)) (sym c.deref-in-Pipe.ensures) (sym c.deref-in-Pipe-2.ensures) in
    subst (λ tree. AreTogether tree c.of_pipe.result) (sym whole) (c.of_pipe.ensures (tree_of c.deref-in-Pipe.result.now) (tree_of c.deref-in-Pipe-2.result.now) c.tree_together-in-Pipe.ensures c.tree_together-in-Pipe-2.ensures)

pub returns-in-List : goal.returns-in-List
returns-in-List g t c =
    let whole = ap tree_of c.in-List.is ∙ ap₂ (λ l r. list (tree_of l) (tree_of r)) (sym c.deref-in-List.ensures) (sym c.deref-in-List-2.ensures) in
    subst (λ tree. AreTogether tree c.of_list.result) (sym whole) (c.of_list.ensures (tree_of c.deref-in-List.result.now) (tree_of c.deref-in-List-2.result.now) c.tree_together-in-List.ensures c.tree_together-in-List-2.ensures)

pub returns-in-Back : goal.returns-in-Back
returns-in-Back g t c =
    let whole = ap tree_of c.in-Back.is ∙ ap (λ b. back (tree_of b)) (sym c.deref-in-Back.ensures) in
    subst (λ tree. AreTogether tree c.of_back.result) (sym whole) (c.of_back.ensures (tree_of c.deref-in-Back.result.now) c.tree_together-in-Back.ensures)
