-- The owner is the list that has the slot.
use Rattle.std.proofs.Common.{List, ℕ, ◌∙◌, ap, sym, refl, get_or, arith}
use Rattle.std.proofs.lemmas.Bool.{eq-eqb, ne_eqb}
use Rattle.slot_lists.specs.Links.{slots_of, has}
use Rattle.slot_lists.proofs.Walks.{list_at}
use Rattle.slot_lists.proofs.lists.SlotLists.list_with.Goals as goal

pub returns-then-list-lt-LISTS-clause-some : goal.returns-then-list-lt-LISTS-clause-some
returns-then-list-lt-LISTS-clause-some c =
    let owner = get_or c.self.inside.owner c.args.slot 0 in
    ap (λ (all : List (List ℕ)). has (slots_of all owner) c.args.slot) (sym c.self.view_is) ∙ ap (λ (xs : List ℕ). has xs c.args.slot) (list_at c.self.inside.next owner (omega arith))
    ∙ c.self.invariant.owned owner c.args.slot (omega arith) (omega arith) ∙ eq-eqb owner owner refl

pub returns-else-list-lt-LISTS-clause-none : goal.returns-else-list-lt-LISTS-clause-none
returns-else-list-lt-LISTS-clause-none c = λ list lt.
    let owner = get_or c.self.inside.owner c.args.slot 0 in
    ap (λ (all : List (List ℕ)). has (slots_of all list) c.args.slot) (sym c.self.view_is) ∙ ap (λ (xs : List ℕ). has xs c.args.slot) (list_at c.self.inside.next list lt)
    ∙ c.self.invariant.owned list c.args.slot lt (omega arith) ∙ ne_eqb owner list (λ same. omega arith)
