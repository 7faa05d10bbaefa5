use Rattle.std.proofs.Common.{◌≡◌, ◌+◌, sym, ap, ap₂, ◌∙◌, subst, arith}
use Rattle.sh_tree.specs.Tree.{tree_of, redir, pipe, list}
use Rattle.room_model.specs.Opens.{most_opens}
use Rattle.room_bounds.specs.Capped.{IsCapped}
use Rattle.room_bounds.proofs.opens.+tree_opens.Goals as goal

pub returns-in-Redir : goal.returns-in-Redir
returns-in-Redir g t c =
    let whole = ap tree_of c.in-Redir.is ∙ ap (λ b. redir c.in-Redir.mode c.in-Redir.name (tree_of b)) (sym c.deref.ensures) in
    subst (λ tree. IsCapped (most_opens tree) c.one_more.result) (sym whole) (c.one_more.ensures (most_opens (tree_of c.deref.result.now)) c.tree_opens.ensures)

pub returns-in-Pipe : goal.returns-in-Pipe
returns-in-Pipe g t c =
    let whole = ap tree_of c.in-Pipe.is ∙ ap₂ (λ l r. pipe (tree_of l) (tree_of r)) (sym c.deref-in-Pipe.ensures) (sym c.deref-in-Pipe-2.ensures) in
    subst (λ tree. IsCapped (most_opens tree) c.sum_with.result) (sym whole)
    (c.sum_with.ensures (most_opens (tree_of c.deref-in-Pipe.result.now)) (most_opens (tree_of c.deref-in-Pipe-2.result.now)) c.tree_opens-in-Pipe.ensures c.tree_opens-in-Pipe-2.ensures)

pub returns-in-List : goal.returns-in-List
returns-in-List g t c =
    let l = tree_of c.deref-in-List.result.now in
    let r = tree_of c.deref-in-List-2.result.now in
    let whole = ap tree_of c.in-List.is ∙ ap₂ (λ a b. list (tree_of a) (tree_of b)) (sym c.deref-in-List.ensures) (sym c.deref-in-List-2.ensures) in
    let sum : 0 + most_opens l + most_opens r ≡ most_opens (list l r) = omega arith in
    subst (λ tree. IsCapped (most_opens tree) c.sum_with-in-List.result) (sym whole)
    (subst (λ n. IsCapped n c.sum_with-in-List.result) sum (c.sum_with-in-List.ensures (most_opens l) (most_opens r) c.tree_opens-in-List.ensures c.tree_opens-in-List-2.ensures))
