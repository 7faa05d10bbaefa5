use Rattle.std.specs.Prelude.{count_by}
use Rattle.proc_table.specs.Slots.{is_running}
use Rattle.kernel_model.proofs.Acts.{acted_after}
use Rattle.kernel_model.proofs.Keeps.{mid}
use Rattle.kernel_model.proofs.laws.each_call_keeps_a_kernel_sound.Goals as goal

pub returns : goal.returns
returns g c = λ k pid after call refused are sound runs.
    acted_after (count_by is_running k.table) pid k after call refused are (mid k.table k.entries pid sound runs)
