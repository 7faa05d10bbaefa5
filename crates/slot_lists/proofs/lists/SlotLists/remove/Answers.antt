-- The slot is linked out, where it stands in a list.
use Rattle.std.proofs.Common.{◌≡◌, List, ℕ, ◌∙◌, ap, sym, refl, get_or, arith, false}
use Rattle.std.proofs.lemmas.Bool.{ne_eqb}
use Rattle.std.proofs.Math.ListN.{set}
use Rattle.slot_lists.specs.Links.{slots_of, has, without, list_of}
use Rattle.slot_lists.proofs.Walks.{list_at}
use Rattle.slot_lists.proofs.Removed.{kept_after, list_after, without_none}
use Rattle.slot_lists.proofs.lists.SlotLists.remove.Goals as goal

pub invariant_of-self : goal.invariant_of-self
invariant_of-self c =
    let l = c.self.inside in
    kept_after l.next l.prev l.owner c.self.invariant c.args.slot (omega arith) (omega arith) (get_or l.prev c.args.slot 0) (get_or l.next c.args.slot 0) refl refl

pub returns-then-self-slot-lt-LISTS : goal.returns-then-self-slot-lt-LISTS
returns-then-self-slot-lt-LISTS c = λ list lt.
    let l = c.self.inside in
    list_at (set l.next (get_or l.prev c.args.slot 0) (get_or l.next c.args.slot 0)) list lt
    ∙ list_after l.next l.prev l.owner c.self.invariant c.args.slot (omega arith) (omega arith) (get_or l.prev c.args.slot 0) (get_or l.next c.args.slot 0) refl refl list lt
    ∙ ap (without c.args.slot) (sym (list_at l.next list lt) ∙ ap (λ (all : List (List ℕ)). slots_of all list) c.self.view_is)

pub returns-else-self-slot-lt-LISTS : goal.returns-else-self-slot-lt-LISTS
returns-else-self-slot-lt-LISTS c = λ list lt.
    let l = c.self.inside in
    let is : slots_of c.args.self.now list ≡ list_of l.next list = ap (λ (all : List (List ℕ)). slots_of all list) (sym c.self.view_is) ∙ list_at l.next list lt in
    let none : has (slots_of c.args.self.now list) c.args.slot ≡ false =
    ap (λ (xs : List ℕ). has xs c.args.slot) is ∙ c.self.invariant.owned list c.args.slot lt (omega arith) ∙ ne_eqb (get_or l.owner c.args.slot 0) list (λ same. omega arith) in
    sym (without_none (slots_of c.args.self.now list) c.args.slot none)
