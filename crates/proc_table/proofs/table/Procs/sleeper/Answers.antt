-- Where no head sleeps on the channel, no slot does.
use Rattle.std.proofs.Common.{subst, ◌≡◌, false, ℕ}
use Rattle.proc_table.specs.Slots.{at, is_asleep_on, is_asleep_on_status}
use Rattle.proc_table.proofs.Kept.{none_there}
use Rattle.proc_table.proofs.table.Procs.sleeper.Goals as goal

pub returns-in-None-clause-none : goal.returns-in-None-clause-none
returns-in-None-clause-none g c =
    subst (λ t. (pid : ℕ) → is_asleep_on c.args.channel.now (at t pid) ≡ false) c.self.view_is
    (none_there (is_asleep_on_status c.args.channel.now) c.self.inside.slots.items c.self.inside.heads c.self.invariant c.in-None.ensures.none)
