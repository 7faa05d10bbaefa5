use Rattle.std.proofs.Common.{ap, ◌∙◌}
use Rattle.fd_table.specs.declared.descriptors.TheConstants.{DESCRIPTORS}
use Rattle.proc_table.specs.Slots.{at, is_running}
use Rattle.kernel_model.specs.KernelState.{KernelState}
use Rattle.kernel_model.proofs.Keeps.{mid}
use Rattle.kernel_model.proofs.Closing.{closed_below_mid}
use Rattle.kernel_calls.proofs.state.State.exit.Goals as goal

pub exit-requires-clause-runs : goal.exit-requires-clause-runs
exit-requires-clause-runs g c =
    ap (λ (k : KernelState g.row.M-State.Denot). is_running (at k.table c.args.pid)) (c.self.view_is ∙ c.close_all.ensures) ∙ (closed_below_mid _ c.args.pid c.args.self.now DESCRIPTORS (mid c.args.self.now.table c.args.self.now.entries c.args.pid c.requires.sound c.requires.runs)).runs
