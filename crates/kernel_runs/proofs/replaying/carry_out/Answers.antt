use Rattle.std.proofs.Common.{◌≡◌, ◌<◌, take, get_or, length, rules}
use Rattle.kernel_model.specs.declared.events.Event.TheVariants.{Dispatch}
use Rattle.kernel_events.specs.Possible.{CanHappen}
use Rattle.kernel_runs.proofs.Stopping.{stops_at}
use Rattle.kernel_runs.proofs.replaying.carry_out.Goals as goal

pub returns-then-not-branch-clause-fault : goal.returns-then-not-branch-clause-fault
returns-then-not-branch-clause-fault g c =
    let so_far : c.happen.new.self.schedule ≡ take c.loop-place.place c.args.events.now = search rules in
    let within : c.loop-place.place < length c.args.events.now = search rules in
    let impossible : CanHappen c.happen.new.self.now.table (get_or c.args.events.now c.loop-place.place (Dispatch 0 0)) → ⊥ = search rules in
    stops_at c.happen.new.self.now c.happen.new.self.schedule c.args.events.now c.loop-place.place (Dispatch 0 0) c.refused.result so_far within impossible c.refused.ensures
