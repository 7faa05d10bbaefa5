use Rattle.sh_tree.proofs.Answer.{some_answer}
use Rattle.sh_tree.proofs.laws.some_answer.Goals as goal

pub returns : goal.returns
returns c line = some_answer line
