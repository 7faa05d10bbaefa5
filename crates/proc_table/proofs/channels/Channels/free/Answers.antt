-- The lowest list in the group of the free ones.
use Rattle.std.proofs.Common.{◌≡◌, ◌≢◌, ◌<◌, ℕ, List, Option, IfNone, IfSome, None, subst}
use Rattle.proc_table.specs.declared.states.Channel.{Channel}
use Rattle.proc_table.specs.Channels.{channel_of}
use Rattle.proc_table.proofs.Naming.{found_free, none_free}
use Rattle.proc_table.proofs.channels.Channels.free.Goals as goal

pub returns-else-is_none-clause-some : goal.returns-else-is_none-clause-some
returns-else-is_none-clause-some c =
    subst (λ (channels : List (Option Channel)). IfSome c.first.result (λ list. channel_of channels list ≡ None)) c.self.view_is
    (found_free c.self.inside.channels c.self.inside.groups c.self.invariant c.first.result (c.first.ensures.value c.self.invariant.keys c.self.invariant.grouped))

pub returns-else-is_none-clause-none : goal.returns-else-is_none-clause-none
returns-else-is_none-clause-none c =
    subst (λ (channels : List (Option Channel)). IfNone c.first.result ((list : ℕ) → list < 64 → channel_of channels list ≢ None)) c.self.view_is
    (none_free c.self.inside.channels c.self.inside.groups c.self.invariant c.first.result (c.first.ensures.value c.self.invariant.keys c.self.invariant.grouped))
