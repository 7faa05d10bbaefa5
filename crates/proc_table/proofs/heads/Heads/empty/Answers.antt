-- All slots are in the group of the free ones, and in no other, and in no list.
use Rattle.std.proofs.Common.{List, Option, sym, subst}
use Rattle.proc_table.specs.declared.heads.Head.{Head}
use Rattle.proc_table.specs.Heads.{IsOnHart}
use Rattle.proc_table.specs.Searched.{AreSearched}
use Rattle.proc_table.proofs.Naming.{none_at}
use Rattle.proc_table.proofs.heads.Heads.empty.Goals as goal

pub invariant_of-result : goal.invariant_of-result
invariant_of-result c =
    subst (λ (heads : List (Option Head)). AreSearched heads c.filled.result c.new.result c.new-2.result c.new-3.result) (sym c.no_heads.ensures)
    (record {
      by_state = c.filled.ensures;
      by_hart = c.new.ensures;
      by_parent = c.new-2.ensures;
      queued = c.new-3.ensures;
      on_harts = λ slot. subst IsOnHart (sym (none_at 64 slot)) (λ h is. absurd (let no : ⊥ = cc in no));
    })
