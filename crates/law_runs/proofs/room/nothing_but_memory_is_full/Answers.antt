use Rattle.law_runs.proofs.room.Roomy.{only_memory}
use Rattle.law_runs.proofs.room.nothing_but_memory_is_full.Goals as goal

pub returns : goal.returns
returns c = λ r clear roomy. only_memory r.profile r.lines r.input r.files r.are roomy r.schedule r.notes r.last r.runs clear
