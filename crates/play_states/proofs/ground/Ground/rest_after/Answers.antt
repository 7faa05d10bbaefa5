use Rattle.std.proofs.Common.{subst, rules}
use Rattle.kernel_model.specs.KernelState.{KernelState}
use Rattle.every_order.specs.Rest.{TellsAfter}
use Rattle.play_states.proofs.ground.Ground.rest_after.Goals as goal

pub returns : goal.returns
returns g c =
    record {
      whole = search rules;
      tells = subst (λ (k : KernelState g.row.M-State.Denot). TellsAfter g.M.Machine.call_of g.M.Machine.next_of k c.args.pids.now c.in_ok-found.found) c.self.view_is c.in_ok-found.ensures.told;
    }
