-- The slot is linked in before the end of the list.
use Rattle.std.proofs.Common.{◌≤◌, ◌++◌, [], ◌∷◌, List, ℕ, ◌+◌, ◌∙◌, ap, sym, refl, get_or, arith}
use Rattle.slot_lists.specs.Links.{slots_of, has}
use Rattle.slot_lists.proofs.Walks.{list_at}
use Rattle.slot_lists.proofs.Links.{linked_in}
use Rattle.slot_lists.proofs.Pushed.{not_owned, kept_after, list_here, list_there}
use Rattle.slot_lists.proofs.lists.SlotLists.push.Goals as goal

pub invariant_of-self : goal.invariant_of-self
invariant_of-self c =
    let l = c.self.inside in
    let last = get_or l.prev (64 + c.args.list) 0 in
    let free : 72 ≤ get_or l.owner c.args.slot 0 = not_owned l.next l.prev l.owner c.self.invariant c.args.slot (omega arith) (λ h lt. ap (λ (xs : List ℕ). has xs c.args.slot) (sym (list_at l.next h lt)) ∙ ap (λ (all : List (List ℕ)). has (slots_of all h) c.args.slot) c.self.view_is ∙ c.requires.free h lt) in
    kept_after l.next l.prev l.owner c.self.invariant c.args.list c.args.slot (omega arith) (omega arith) free last refl

pub returns-clause-here : goal.returns-clause-here
returns-clause-here c =
    let l = c.self.inside in
    let last = get_or l.prev (64 + c.args.list) 0 in
    let free : 72 ≤ get_or l.owner c.args.slot 0 = not_owned l.next l.prev l.owner c.self.invariant c.args.slot (omega arith) (λ h lt. ap (λ (xs : List ℕ). has xs c.args.slot) (sym (list_at l.next h lt)) ∙ ap (λ (all : List (List ℕ)). has (slots_of all h) c.args.slot) c.self.view_is ∙ c.requires.free h lt) in
    list_at (linked_in l.next last c.args.slot (64 + c.args.list)) c.args.list (omega arith)
    ∙ list_here l.next l.prev l.owner c.self.invariant c.args.list c.args.slot (omega arith) (omega arith) free last refl
    ∙ ap (λ (xs : List ℕ). xs ++ c.args.slot ∷ []) (sym (list_at l.next c.args.list (omega arith)) ∙ ap (λ (all : List (List ℕ)). slots_of all c.args.list) c.self.view_is)

pub returns-clause-others : goal.returns-clause-others
returns-clause-others c = λ other ne lt.
    let l = c.self.inside in
    let last = get_or l.prev (64 + c.args.list) 0 in
    let free : 72 ≤ get_or l.owner c.args.slot 0 = not_owned l.next l.prev l.owner c.self.invariant c.args.slot (omega arith) (λ h lt. ap (λ (xs : List ℕ). has xs c.args.slot) (sym (list_at l.next h lt)) ∙ ap (λ (all : List (List ℕ)). has (slots_of all h) c.args.slot) c.self.view_is ∙ c.requires.free h lt) in
    list_at (linked_in l.next last c.args.slot (64 + c.args.list)) other lt
    ∙ list_there l.next l.prev l.owner c.self.invariant c.args.list c.args.slot (omega arith) (omega arith) free last refl other ne lt
    ∙ sym (list_at l.next other lt) ∙ ap (λ (all : List (List ℕ)). slots_of all other) c.self.view_is
