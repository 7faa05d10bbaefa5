use Rattle.std.proofs.Common.{ap, ◌∙◌, refl, add-one}
use Rattle.kernel_model.specs.KernelState.{KernelState}
use Rattle.kernel_model.specs.Descriptors.{closed, closed_below}
use Rattle.kernel_model.proofs.Keeps.{mid}
use Rattle.kernel_model.proofs.Closing.{closed_below_mid}
use Rattle.kernel_calls.proofs.state.State.close_all.Goals as goal

pub close_one-requires-clause-runs : goal.close_one-requires-clause-runs
close_one-requires-clause-runs g c =
    rw c.loop-fd.invariant (closed_below_mid _ c.args.pid c.args.self.now c.loop-fd.fd (mid c.args.self.now.table c.args.self.now.entries c.args.pid c.requires.sound c.requires.runs)).runs

pub close_one-requires-clause-sound : goal.close_one-requires-clause-sound
close_one-requires-clause-sound g c =
    rw c.loop-fd.invariant (closed_below_mid _ c.args.pid c.args.self.now c.loop-fd.fd (mid c.args.self.now.table c.args.self.now.entries c.args.pid c.requires.sound c.requires.runs)).sound

pub loop-fd-init : goal.loop-fd-init
unfolding closed_below
loop-fd-init g c = refl

pub loop-fd-preserved : goal.loop-fd-preserved
unfolding closed_below
loop-fd-preserved g c =
    rw add-one (c.close_one.ensures.after ∙ ap (λ (k : KernelState g.row.M-State.Denot). closed k c.args.pid c.loop-fd.fd) c.loop-fd.invariant)
