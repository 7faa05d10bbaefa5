use Rattle.mem_files.proofs.Listed.{ascends}
use Rattle.mem_files.proofs.laws.names_ascend.Goals as goal

pub returns : goal.returns
returns c = λ list i j low high kept. ascends list i j low high kept.ascending
