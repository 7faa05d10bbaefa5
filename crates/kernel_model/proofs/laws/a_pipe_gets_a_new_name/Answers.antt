use Rattle.std.proofs.Common.{refl, arith}
use Rattle.kernel_model.specs.Boot.{boot_kernel}
use Rattle.kernel_model.proofs.Lasting.{run_later}
use Rattle.kernel_model.proofs.laws.a_pipe_gets_a_new_name.Goals as goal

pub returns : goal.returns
returns g c = λ init shell input list m events notes id is past.
    let later = run_later g.M.Machine.call_of g.M.Machine.next_of (boot_kernel init shell input list) m events notes is in
    later.names id (omega (arith, past, later.events)) refl
