-- Line by line.
use Rattle.sh_machine.proofs.Lines.{every_line}
use Rattle.sh_machine.proofs.laws.the_top_shell_takes_every_line.Goals as goal

pub returns : goal.returns
returns c = λ profile lines. every_line profile lines
