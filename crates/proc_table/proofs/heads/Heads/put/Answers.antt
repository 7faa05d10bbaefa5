-- The slot goes from group to group, and from list to list.
use Rattle.std.proofs.Common.{◌≡◌, ◌⊎◌, inl, inr, ◌<◌, ℕ, List, Option, None, length, sym, subst, ap, ◌∙◌, arith, get_or-set_other, get_or-set_same}
use Rattle.std.proofs.Math.ListN.{set}
use Rattle.std.proofs.lemmas.Bool.{cases_eq}
use Rattle.std.proofs.lemmas.List.{get_or_default}
use Rattle.proc_table.specs.declared.heads.Head.{Head}
use Rattle.proc_table.specs.Heads.{IsOnHart, hart_key, head_at, parent_key, state_key}
use Rattle.proc_table.proofs.Grouping.{put_group}
use Rattle.proc_table.proofs.heads.Heads.put.Goals as goal

on_harts : (heads : List (Option Head)) (index : ℕ) (head : Option Head) → index < length heads → IsOnHart head → ((slot : ℕ) → IsOnHart (head_at heads slot)) → (slot : ℕ) → IsOnHart (head_at (set heads index head) slot)
on_harts heads index head lt on were slot = by (cases_eq slot index) where
  by : (slot ≡ index) ⊎ (slot ≡ index → ⊥) → IsOnHart (head_at (set heads index head) slot)
  by (inl same) = subst IsOnHart (sym (ap (head_at (set heads index head)) same ∙ get_or-set_same heads index head None lt)) on
  by (inr ne) = subst IsOnHart (sym (get_or-set_other heads index slot head None ne)) (were slot)

pub invariant_of-self : goal.invariant_of-self
invariant_of-self c =
    let heads = c.self.inside.heads in
    let lt : c.args.index < 64 = c.requires.within in
    let long : c.args.index < length heads = omega (arith, c.self.invariant.queued.standing.all, lt) in
    let was = get_or_default heads c.args.index c.index-self-index.result None long in
    record {
      by_state = put_group 5 state_key heads c.self.inside.states c.put.new.self c.args.index _ c.args.head _ _ c.put.ensures c.self.invariant.by_state lt was c.state_number.ensures c.state_number-2.ensures;
      by_hart = put_group 8 hart_key heads c.self.inside.harts c.put-2.new.self c.args.index _ c.args.head _ _ c.put-2.ensures c.self.invariant.by_hart lt was c.hart_of.ensures c.hart_of-2.ensures;
      by_parent = put_group 64 parent_key heads c.self.inside.children c.put-3.new.self c.args.index _ c.args.head _ _ c.put-3.ensures c.self.invariant.by_parent lt was c.parent_of.ensures c.parent_of-2.ensures;
      queued = c.put-4.ensures heads c.self.invariant.queued (sym was);
      on_harts = on_harts heads c.args.index c.args.head long c.requires.on_hart c.self.invariant.on_harts;
    }
