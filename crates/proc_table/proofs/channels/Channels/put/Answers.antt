-- The list goes from group to group.
use Rattle.std.proofs.Common.{ℕ, Option, None, sym, subst, ap, ◌∙◌, arith}
use Rattle.std.proofs.Math.ListN.{set}
use Rattle.std.proofs.lemmas.List.{get_or_default}
use Rattle.slot_lists.specs.Sets.{AreGrouped}
use Rattle.proc_table.specs.Channels.{entry_key}
use Rattle.proc_table.proofs.Naming.{put_key}
use Rattle.proc_table.proofs.channels.Channels.put.Goals as goal

pub invariant_of-self : goal.invariant_of-self
invariant_of-self c =
    let channels = c.self.inside.channels in
    let list = c.args.list in
    put_key channels c.self.inside.groups c.self.invariant list c.args.channel c.put.new.self c.requires
    (subst (λ (key : Option ℕ). AreGrouped 65 (set c.self.invariant.keys c.args.list key) c.put.new.self) c.key-2.ensures
    (c.put.ensures c.self.invariant.keys c.self.invariant.grouped
    (c.self.invariant.keyed list c.requires ∙ ap (entry_key list) (get_or_default channels list None c.index-self-list.result (omega (arith, c.self.invariant.all, c.requires))) ∙ sym c.key.ensures)))
