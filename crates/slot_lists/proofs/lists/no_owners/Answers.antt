-- Each entry is the same.
use Rattle.std.proofs.lemmas.List.{get_or-replicate}
use Rattle.slot_lists.proofs.lists.no_owners.Goals as goal

pub returns-clause-none : goal.returns-clause-none
returns-clause-none c = λ i lt. get_or-replicate 64 i 72 0 lt
