-- A list of one word is `cat` alone where that word is `cat`.
use Rattle.std.proofs.Common.{ℕ, List, [], ◌∷◌, sym, ap, ◌∙◌}
use Rattle.std.proofs.lemmas.Bool.{eqb-true}
use Rattle.std.proofs.lemmas.List.{nil_from_length}
use Rattle.std.proofs.lemmas.Slice.Eq.{bytes_eq-Decides}
use Rattle.sh_tree.specs.Tree.{Tree, exec}
use Rattle.plain_run.proofs.run.are_cat_alone.Goals as goal

abbrev first_word : Tree → List ℕ
first_word (exec (word ∷ words)) = word
first_word tree = []

pub returns-then-is_empty : goal.returns-then-is_empty
returns-then-is_empty g c =
    let name = c.in-Some.name.now in
    let alone = nil_from_length c.in-Some.arguments.now (eqb-true _ 0 (sym c.is_empty.ensures ∙ c.if-is_empty.true)) in
    let one = ap exec (c.in-Some.ensures.cases.0 ∙ ap (λ arguments. name ∷ arguments) alone) in
    let is = bytes_eq-Decides c.as_slice.result.now c.as_slice-then-is_empty.result.now in (
      λ holds. one ∙ ap (λ word. exec (word ∷ [])) (sym c.as_slice.ensures ∙ is.0 (sym c.eq.ensures ∙ holds) ∙ c.as_slice-then-is_empty.ensures),
      λ cat. c.eq.ensures ∙ is.1 (c.as_slice.ensures ∙ ap first_word (sym one ∙ cat) ∙ sym c.as_slice-then-is_empty.ensures),
    )
