-- Out of the old set and into the new one.
use Rattle.slot_lists.proofs.Grouping.{put_grouped}
use Rattle.slot_lists.proofs.groups.SlotGroups.put.Goals as goal

pub returns : goal.returns
returns g c = λ keys grouped was. put_grouped g.row.GROUPS keys _ _ _ c.args.slot c.args.from c.args.to c.requires c.mark.ensures c.mark-2.ensures grouped was
