-- Each arm's clash is that of the tree which the arm takes apart.
use Rattle.std.proofs.Common.{◌≡◌, false, ap, ap₂, refl, subst, sym, ◌∙◌}
use Rattle.std.proofs.lemmas.Option.{IfSome_then}
use Rattle.std.specs.Option.{IfSome}
use Rattle.sh_tree.specs.Tree.{tree_of, redir, pipe, list, back}
use Rattle.conflict_check.specs.declared.conflict.ClashKind.TheVariants.{Enclosing, PipeSides}
use Rattle.conflict_check.specs.Clash.{IsFirstClash, IsFirstShared, own_file, in_body, own_sides, left_of_pipe, right_of_pipe, left_of_list, right_of_list, behind}
use Rattle.conflict_check.specs.Clear.{is_touched, AreApart, IsClear}
use Rattle.conflict_check.proofs.Sharing.{apart_shares_none, never}
use Rattle.conflict_check.proofs.clashes.+clash.Goals as goal

pub returns-then-is_touched-clause-some : goal.returns-then-is_touched-clause-some
returns-then-is_touched-clause-some g t c =
    let whole = ap tree_of c.in-Redir.is ∙ ap (λ n. redir c.in-Redir.mode n (tree_of c.in-Redir.body.value)) (sym c.as_slice-name.ensures) ∙ ap (λ b. redir c.in-Redir.mode c.as_slice-name.result.now (tree_of b)) (sym c.deref.ensures) in
    subst (λ tree. IsFirstClash tree Enclosing c.as_slice-name.result.now) (sym whole) (own_file (sym c.is_touched.ensures ∙ c.if-is_touched.true))

pub returns-else-is_touched-clause-some : goal.returns-else-is_touched-clause-some
returns-else-is_touched-clause-some g t c =
    let file = c.as_slice-name.result.now in
    let mode = c.in-Redir.mode in
    let body = tree_of c.deref-else-is_touched.result.now in
    let whole = ap tree_of c.in-Redir.is ∙ ap (λ n. redir mode n (tree_of c.in-Redir.body.value)) (sym c.as_slice-name.ensures) ∙ ap (λ b. redir mode file (tree_of b)) (sym c.deref-else-is_touched.ensures) in
    let bodies = ap tree_of (c.deref.ensures ∙ sym c.deref-else-is_touched.ensures) in
    let not : is_touched mode file body ≡ false = ap (is_touched mode file) (sym bodies) ∙ sym c.is_touched.ensures ∙ c.if-is_touched.false in
    subst (λ tree. IfSome c.clash.result (λ found. IsFirstClash tree found.kind found.name.now)) (sym whole)
    (IfSome_then c.clash.result {P = λ found. IsFirstClash body found.kind found.name.now} {Q = λ found. IsFirstClash (redir mode file body) found.kind found.name.now} c.clash.ensures.some
    (λ found first. in_body not first))

pub returns-in-Some-clause-none : goal.returns-in-Some-clause-none
returns-in-Some-clause-none g t c =
    let left = tree_of c.deref-in-Pipe.result.now in
    let right = tree_of c.deref-in-Pipe-2.result.now in
    let whole = ap tree_of c.in-Pipe.is ∙ ap₂ (λ l r. pipe (tree_of l) (tree_of r)) (sym c.deref-in-Pipe.ensures) (sym c.deref-in-Pipe-2.ensures) in
    let first : IsFirstShared left right c.in-Some.name.now = c.in-Some.ensures.some in
    (λ e. absurd (never e), λ clear. absurd (apart_shares_none left right c.in-Some.name.now (subst IsClear whole clear).0 first.clashes))

pub returns-in-Some-clause-some : goal.returns-in-Some-clause-some
returns-in-Some-clause-some g t c =
    let whole = ap tree_of c.in-Pipe.is ∙ ap₂ (λ l r. pipe (tree_of l) (tree_of r)) (sym c.deref-in-Pipe.ensures) (sym c.deref-in-Pipe-2.ensures) in
    subst (λ tree. IsFirstClash tree PipeSides c.in-Some.name.now) (sym whole) (own_sides c.in-Some.ensures.some)

pub returns-in-Some-clash-clause-some : goal.returns-in-Some-clash-clause-some
returns-in-Some-clash-clause-some g t c =
    let left = tree_of c.deref-in_default.result.now in
    let right = tree_of c.deref-in-Pipe-2.result.now in
    let whole = ap tree_of c.in-Pipe.is ∙ ap₂ (λ l r. pipe (tree_of l) (tree_of r)) (sym c.deref-in_default.ensures) (sym c.deref-in-Pipe-2.ensures) in
    let lefts = ap tree_of (c.deref-in-Pipe.ensures ∙ sym c.deref-in_default.ensures) in
    let apart : AreApart left right = subst (λ l. AreApart l right) lefts c.in_default.ensures.none in
    let found = c.in-Some-clash.found in
    subst (λ tree. IsFirstClash tree found.kind found.name.now) (sym whole) (left_of_pipe apart c.in-Some-clash.ensures.some)

pub returns-in-None-clause-some : goal.returns-in-None-clause-some
returns-in-None-clause-some g t c =
    let left = tree_of c.deref-in-Pipe.result.now in
    let right = tree_of c.deref-in-None.result.now in
    let whole = ap tree_of c.in-Pipe.is ∙ ap₂ (λ l r. pipe (tree_of l) (tree_of r)) (sym c.deref-in-Pipe.ensures) (sym c.deref-in-None.ensures) in
    let lefts = ap tree_of (c.deref-in_default.ensures ∙ sym c.deref-in-Pipe.ensures) in
    let rights = ap tree_of (c.deref-in-Pipe-2.ensures ∙ sym c.deref-in-None.ensures) in
    let apart : AreApart left right = subst (λ r. AreApart left r) rights c.in_default.ensures.none in
    let clear : IsClear left = subst IsClear lefts (c.in-None.ensures.none.0 refl) in
    subst (λ tree. IfSome c.clash-in-None.result (λ found. IsFirstClash tree found.kind found.name.now)) (sym whole)
    (IfSome_then c.clash-in-None.result {P = λ found. IsFirstClash right found.kind found.name.now} {Q = λ found. IsFirstClash (pipe left right) found.kind found.name.now} c.clash-in-None.ensures.some
    (λ found first. right_of_pipe apart clear first))

pub returns-in-Some-clash-2-clause-some : goal.returns-in-Some-clash-2-clause-some
returns-in-Some-clash-2-clause-some g t c =
    let whole = ap tree_of c.in-List.is ∙ ap (λ l. list (tree_of l) (tree_of c.in-List.right.value)) (sym c.deref-in-List.ensures) in
    let found = c.in-Some-clash-2.found in
    subst (λ tree. IsFirstClash tree found.kind found.name.now) (sym whole) (left_of_list c.in-Some-clash-2.ensures.some)

pub returns-in-None-clash-clause-some : goal.returns-in-None-clash-clause-some
returns-in-None-clash-clause-some g t c =
    let left = tree_of c.deref-in-List.result.now in
    let right = tree_of c.deref-in-None-clash.result.now in
    let whole = ap tree_of c.in-List.is ∙ ap₂ (λ l r. list (tree_of l) (tree_of r)) (sym c.deref-in-List.ensures) (sym c.deref-in-None-clash.ensures) in
    let clear : IsClear left = c.in-None-clash.ensures.none.0 refl in
    subst (λ tree. IfSome c.clash-in-None-clash.result (λ found. IsFirstClash tree found.kind found.name.now)) (sym whole)
    (IfSome_then c.clash-in-None-clash.result {P = λ found. IsFirstClash right found.kind found.name.now} {Q = λ found. IsFirstClash (list left right) found.kind found.name.now} c.clash-in-None-clash.ensures.some
    (λ found first. right_of_list clear first))

pub returns-in-Back-clause-some : goal.returns-in-Back-clause-some
returns-in-Back-clause-some g t c =
    let body = tree_of c.deref-in-Back.result.now in
    let whole = ap tree_of c.in-Back.is ∙ ap (λ b. back (tree_of b)) (sym c.deref-in-Back.ensures) in
    subst (λ tree. IfSome c.clash-in-Back.result (λ found. IsFirstClash tree found.kind found.name.now)) (sym whole)
    (IfSome_then c.clash-in-Back.result {P = λ found. IsFirstClash body found.kind found.name.now} {Q = λ found. IsFirstClash (back body) found.kind found.name.now} c.clash-in-Back.ensures.some
    (λ found first. behind first))
