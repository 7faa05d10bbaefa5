use Rattle.kernel_model.specs.Events.{acted}
use Rattle.law_kernel.proofs.outcomes.Marks.{unmarked}
use Rattle.law_kernel.proofs.outcomes.Outcomes.{every_call_ends}
use Rattle.law_kernel.proofs.outcomes.only_a_refused_call_marks.Goals as goal

pub returns : goal.returns
returns g c = λ k pid after call memory running granted.
    unmarked pid k after call (acted k pid after call memory) running granted (every_call_ends k pid after call memory)
