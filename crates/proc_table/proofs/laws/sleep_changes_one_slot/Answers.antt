-- One slot is written.
use Rattle.std.proofs.Common.{refl}
use Rattle.proc_table.specs.Slots.{at}
use Rattle.proc_table.specs.Calls.{put_to_sleep}
use Rattle.proc_table.proofs.Changes.{written, kept}
use Rattle.proc_table.proofs.laws.sleep_changes_one_slot.Goals as goal

pub returns-clause-slot : goal.returns-clause-slot
returns-clause-slot g c = λ t pid put channel. written (put_to_sleep channel put) refl t pid

pub returns-clause-others : goal.returns-clause-others
returns-clause-others g c = λ t pid put other channel ne. kept t pid other (put_to_sleep channel put (at t pid)) ne
