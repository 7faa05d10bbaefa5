-- All lists are free.
use Rattle.std.proofs.Common.{List, Option, sym, subst}
use Rattle.proc_table.specs.declared.states.Channel.{Channel}
use Rattle.proc_table.specs.Channels.{AreChannels}
use Rattle.proc_table.proofs.Naming.{all_free}
use Rattle.proc_table.proofs.channels.Channels.new.Goals as goal

pub invariant_of-result : goal.invariant_of-result
invariant_of-result c = subst (λ (channels : List (Option Channel)). AreChannels channels c.filled.result) (sym c.no_channels.ensures) (all_free c.filled.result c.filled.ensures)
