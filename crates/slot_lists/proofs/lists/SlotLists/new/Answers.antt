-- Each end comes after itself.
use Rattle.std.proofs.Common.{◌∙◌, ◌+◌, arith}
use Rattle.slot_lists.proofs.Walks.{list_at, own_end}
use Rattle.slot_lists.proofs.New.{new_lists}
use Rattle.slot_lists.proofs.lists.SlotLists.new.Goals as goal

pub invariant_of-result : goal.invariant_of-result
invariant_of-result c = new_lists c.own_nodes.result c.own_nodes-2.result c.no_owners.result c.own_nodes.ensures.all c.own_nodes-2.ensures.all c.no_owners.ensures.all c.own_nodes.ensures.own c.own_nodes-2.ensures.own c.no_owners.ensures.none

pub returns : goal.returns
returns c = λ list lt. list_at c.own_nodes.result list lt ∙ (own_end c.own_nodes.result list (c.own_nodes.ensures.own (64 + list) (omega arith))).0
