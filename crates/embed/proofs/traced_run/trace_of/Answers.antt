use Rattle.embed.specs.Runs.{no_memory}
use Rattle.embed.proofs.traced_run.trace_of.Goals as goal

pub returns-in-None-clause-fault : goal.returns-in-None-clause-fault
returns-in-None-clause-fault c = no_memory
