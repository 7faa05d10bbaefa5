use Rattle.kernel_model.specs.Events.{acted}
use Rattle.law_kernel.proofs.outcomes.Outcomes.{every_call_ends}
use Rattle.law_kernel.proofs.outcomes.Refusals.{refused_same}
use Rattle.law_kernel.proofs.outcomes.a_refused_call_changes_nothing.Goals as goal

pub returns : goal.returns
returns g c = λ k pid after call memory was. refused_same k pid after call (acted k pid after call memory) was (every_call_ends k pid after call memory)
