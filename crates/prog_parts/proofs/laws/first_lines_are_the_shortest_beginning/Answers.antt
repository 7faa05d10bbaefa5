use Rattle.prog_parts.proofs.FirstLines.{begins, counted, shortest}
use Rattle.prog_parts.proofs.laws.first_lines_are_the_shortest_beginning.Goals as goal

pub returns-clause-begins : goal.returns-clause-begins
returns-clause-begins c n bytes = begins n bytes

pub returns-clause-many : goal.returns-clause-many
returns-clause-many c n bytes = counted n bytes

pub returns-clause-shortest : goal.returns-clause-shortest
returns-clause-shortest c n beginning later all = shortest n beginning later all
