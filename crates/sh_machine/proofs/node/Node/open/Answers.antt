-- Each part stands behind its command, and a right part behind the left one.
use Rattle.std.proofs.Common.{subst, sym}
use Rattle.sh_tree.specs.Tree.{tree_of, redir, pipe, list, back}
use Rattle.sh_machine.specs.Place.{IsLater, IsPlaced, size_of}
use Rattle.sh_machine.proofs.Places.{body_placed, back_placed, pipe_left, pipe_right, list_left, list_right}
use Rattle.sh_machine.proofs.node.Node.open.Goals as goal

pub at-requires : goal.at-requires
at-requires g c =
    let script = g.N.Naming.script in
    let self = c.args.self.now in
    let whole : IsPlaced script self.place (redir c.in-Redir.mode c.in-Redir.name (tree_of c.in-Redir.body.value)) = subst (λ t. IsPlaced script self.place (tree_of t)) c.in-Redir.is self.placed in
    subst (λ t. IsPlaced script c.later-next.result (tree_of t)) (sym c.deref.ensures)
    (body_placed script self.place c.in-Redir.mode c.in-Redir.name (tree_of c.in-Redir.body.value) c.later-next.result whole c.later-next.ensures)

pub at-requires-in-Pipe : goal.at-requires-in-Pipe
at-requires-in-Pipe g c =
    let script = g.N.Naming.script in
    let self = c.args.self.now in
    let whole : IsPlaced script self.place (pipe (tree_of c.in-Pipe.left.value) (tree_of c.in-Pipe.right.value)) = subst (λ t. IsPlaced script self.place (tree_of t)) c.in-Pipe.is self.placed in
    subst (λ t. IsPlaced script c.later-next.result (tree_of t)) (sym c.deref-in-Pipe.ensures)
    (pipe_left script self.place (tree_of c.in-Pipe.left.value) (tree_of c.in-Pipe.right.value) c.later-next.result whole c.later-next.ensures)

pub at-requires-in-Pipe-2 : goal.at-requires-in-Pipe-2
at-requires-in-Pipe-2 g c =
    let script = g.N.Naming.script in
    let self = c.args.self.now in
    let whole : IsPlaced script self.place (pipe (tree_of c.in-Pipe.left.value) (tree_of c.in-Pipe.right.value)) = subst (λ t. IsPlaced script self.place (tree_of t)) c.in-Pipe.is self.placed in
    let behind : IsLater c.later-next.result (size_of (tree_of c.in-Pipe.left.value)) c.behind.result = subst (λ t. IsLater c.later-next.result (size_of (tree_of t)) c.behind.result) c.deref-in-Pipe-3.ensures c.behind.ensures in
    subst (λ t. IsPlaced script c.behind.result (tree_of t)) (sym c.deref-in-Pipe-2.ensures)
    (pipe_right script self.place (tree_of c.in-Pipe.left.value) (tree_of c.in-Pipe.right.value) c.later-next.result c.behind.result whole c.later-next.ensures behind)

pub at-requires-in-List : goal.at-requires-in-List
at-requires-in-List g c =
    let script = g.N.Naming.script in
    let self = c.args.self.now in
    let whole : IsPlaced script self.place (list (tree_of c.in-List.left.value) (tree_of c.in-List.right.value)) = subst (λ t. IsPlaced script self.place (tree_of t)) c.in-List.is self.placed in
    subst (λ t. IsPlaced script c.later-next.result (tree_of t)) (sym c.deref-in-List.ensures)
    (list_left script self.place (tree_of c.in-List.left.value) (tree_of c.in-List.right.value) c.later-next.result whole c.later-next.ensures)

pub at-requires-in-List-2 : goal.at-requires-in-List-2
at-requires-in-List-2 g c =
    let script = g.N.Naming.script in
    let self = c.args.self.now in
    let whole : IsPlaced script self.place (list (tree_of c.in-List.left.value) (tree_of c.in-List.right.value)) = subst (λ t. IsPlaced script self.place (tree_of t)) c.in-List.is self.placed in
    let behind : IsLater c.later-next.result (size_of (tree_of c.in-List.left.value)) c.behind-in-List.result = subst (λ t. IsLater c.later-next.result (size_of (tree_of t)) c.behind-in-List.result) c.deref-in-List-3.ensures c.behind-in-List.ensures in
    subst (λ t. IsPlaced script c.behind-in-List.result (tree_of t)) (sym c.deref-in-List-2.ensures)
    (list_right script self.place (tree_of c.in-List.left.value) (tree_of c.in-List.right.value) c.later-next.result c.behind-in-List.result whole c.later-next.ensures behind)

pub at-requires-in-Back : goal.at-requires-in-Back
at-requires-in-Back g c =
    let script = g.N.Naming.script in
    let self = c.args.self.now in
    let whole : IsPlaced script self.place (back (tree_of c.in-Back.body.value)) = subst (λ t. IsPlaced script self.place (tree_of t)) c.in-Back.is self.placed in
    subst (λ t. IsPlaced script c.later-next.result (tree_of t)) (sym c.deref-in-Back.ensures)
    (back_placed script self.place (tree_of c.in-Back.body.value) c.later-next.result whole c.later-next.ensures)
