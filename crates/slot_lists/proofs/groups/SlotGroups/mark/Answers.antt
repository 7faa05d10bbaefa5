-- The set of the key is changed, where there is one.
use Rattle.std.proofs.Common.{ℕ, List, Option, sym, subst}
use Rattle.std.proofs.Math.ListN.{set}
use Rattle.slot_lists.specs.Sets.{IsMarked}
use Rattle.slot_lists.proofs.Grouping.{marked_here, marked_none, marked_nowhere}
use Rattle.slot_lists.proofs.groups.SlotGroups.mark.Goals as goal

pub returns-then-group : goal.returns-then-group
returns-then-group g c =
    let sets = c.self.inside.sets in
    let after = set sets c.in-Some.group c.with.result in
    subst (λ (old : List ℕ). IsMarked g.row.GROUPS c.args.key c.args.slot c.args.is_in old after) c.self.view_is
    (subst (λ (key : Option ℕ). IsMarked g.row.GROUPS key c.args.slot c.args.is_in sets after) (sym c.in-Some.is)
    (marked_here g.row.GROUPS sets c.in-Some.group c.args.slot c.with.result c.index-self-group.result c.args.is_in c.self.told c.if-group.true c.with.ensures))

pub returns-else-group : goal.returns-else-group
returns-else-group g c =
    subst (λ (key : Option ℕ). IsMarked g.row.GROUPS key c.args.slot c.args.is_in c.args.self.now c.args.self.now) (sym c.in-Some.is)
    (marked_nowhere g.row.GROUPS c.args.self.now c.in-Some.group c.args.slot c.args.is_in c.if-group.false)

pub returns-in_default : goal.returns-in_default
returns-in_default g c =
    subst (λ (key : Option ℕ). IsMarked g.row.GROUPS key c.args.slot c.args.is_in c.args.self.now c.args.self.now) (sym c.in_default.is)
    (marked_none g.row.GROUPS c.args.self.now c.args.slot c.args.is_in)
