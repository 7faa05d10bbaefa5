use Rattle.kernel_model.proofs.Along.{acted_along}
use Rattle.kernel_model.proofs.laws.what_no_call_takes_back.Goals as goal

pub returns : goal.returns
returns g c = λ k pid after call refused. acted_along pid after k call refused
