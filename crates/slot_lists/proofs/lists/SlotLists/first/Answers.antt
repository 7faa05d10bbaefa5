-- The node after the list's end.
use Rattle.std.proofs.Common.{List, ℕ, ◌∙◌, ap, sym, arith}
use Rattle.std.specs.Prelude.{slice_get}
use Rattle.slot_lists.specs.Links.{slots_of}
use Rattle.slot_lists.proofs.Walks.{first_some, first_none}
use Rattle.slot_lists.proofs.lists.SlotLists.first.Goals as goal

pub returns-then-node-lt-SLOTS-clause-value : goal.returns-then-node-lt-SLOTS-clause-value
returns-then-node-lt-SLOTS-clause-value c =
    sym (ap (λ (all : List (List ℕ)). slice_get (slots_of all c.args.list) 0) (sym c.self.view_is) ∙ first_some c.self.inside.next c.args.list (omega arith) (omega arith))

pub returns-else-node-lt-SLOTS-clause-value : goal.returns-else-node-lt-SLOTS-clause-value
returns-else-node-lt-SLOTS-clause-value c =
    sym (ap (λ (all : List (List ℕ)). slice_get (slots_of all c.args.list) 0) (sym c.self.view_is) ∙ first_none c.self.inside.next c.args.list (omega arith) (omega arith))
