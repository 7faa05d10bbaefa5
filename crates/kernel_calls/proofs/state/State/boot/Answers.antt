use Rattle.std.proofs.Common.{◌≡◌, ◌∙◌}
use Rattle.fd_table.specs.declared.names.Object.TheVariants.{Input, Out, Diag}
use Rattle.kernel_model.specs.KernelState.{KernelState}
use Rattle.kernel_model.specs.Descriptors.{with_open}
use Rattle.kernel_model.specs.Boot.{closed_kernel}
use Rattle.kernel_calls.proofs.state.State.boot.Goals as goal

pub returns : goal.returns
returns g c =
    let k : KernelState g.row.M-State.Denot = closed_kernel (g.M.Machine.view c.args.init) (g.M.Machine.view c.args.shell) c.args.stdin.now c.args.files.now in
    let first : c.give.new.self ≡ with_open k 1 Input = c.give.ensures.after ∙ (λ i. with_open (c.in_ok-state.ensures i) (c.shell.ensures i) Input) in
    let second : c.give-2.new.self ≡ with_open (with_open k 1 Input) 1 Out = c.give-2.ensures.after ∙ (λ i. with_open (first i) (c.shell-2.ensures i) Out) in
    c.give-3.ensures.after ∙ (λ i. with_open (second i) (c.shell-3.ensures i) Diag)
