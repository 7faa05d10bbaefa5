-- State by state, and reply by reply.
use Rattle.sh_machine.proofs.Holding.{shell_holds}
use Rattle.sh_machine.proofs.Keeping.{shell_may}
use Rattle.sh_machine.proofs.Lines.{exits_on, waits_on}
use Rattle.sh_machine.proofs.laws.a_shell_keeps_to_its_calls.Goals as goal

pub returns-clause-calls : goal.returns-clause-calls
returns-clause-calls c = λ profile at reply. shell_may profile at reply

pub returns-clause-holds : goal.returns-clause-holds
returns-clause-holds c = λ profile at reply fd held. shell_holds profile at reply fd held

pub returns-clause-over : goal.returns-clause-over
returns-clause-over c = λ profile replies. exits_on profile replies

pub returns-clause-waits : goal.returns-clause-waits
returns-clause-waits c = λ replies. waits_on replies
