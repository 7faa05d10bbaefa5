use Rattle.std.proofs.Common.{sym, subst, refl, arith, []}
use Rattle.kernel_model.specs.KernelState.{KernelState}
use Rattle.kernel_model.specs.History.{IsKept, Written}
use Rattle.kernel_model.specs.Boot.{boot_kernel}
use Rattle.kernel_model.specs.Booted.{IsBooted}
use Rattle.kernel_model.proofs.Booting.{boot_sound, nobody_runs}
use Rattle.kernel_events.proofs.kernel.Kernel.boot.Goals as goal

pub invariant_of-result : goal.invariant_of-result
invariant_of-result g c =
    let b = boot_kernel (g.M.Machine.view c.args.init) (g.M.Machine.view c.args.shell) c.args.stdin.now c.args.files.now in
    let begun : IsBooted b = record { init = g.M.Machine.view c.args.init; shell = g.M.Machine.view c.args.shell; input = c.args.stdin.now; files = c.args.files.now; start = refl; are = c.are_files.ensures } in
    let log : Written = record { events = []; notes = []; room = 0 } in
    let P : KernelState g.row.M-State.Denot → Type 0 = λ k. IsKept g.M.Machine.call_of g.M.Machine.next_of k k log in
    let kept : P b = record { begun = begun; runs = refl; owed = omega (arith, nobody_runs (g.M.Machine.view c.args.init) (g.M.Machine.view c.args.shell) c.args.stdin.now c.args.files.now); paired = nobody_runs (g.M.Machine.view c.args.init) (g.M.Machine.view c.args.shell) c.args.stdin.now c.args.files.now; counted = refl; sound = boot_sound (g.M.Machine.view c.args.init) (g.M.Machine.view c.args.shell) c.args.stdin.now c.args.files.now } in
    rw (c.new-log.ensures, c.of-boot.ensures) (subst P (sym c.in_ok-state.ensures) kept)
