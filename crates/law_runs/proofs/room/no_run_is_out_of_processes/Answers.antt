use Rattle.law_runs.proofs.room.FewProcesses.{slot_is_free}
use Rattle.law_runs.proofs.room.no_run_is_out_of_processes.Goals as goal

pub returns : goal.returns
returns c = λ r plain few full. slot_is_free r.profile r.lines r.input r.files r.are plain r.schedule r.notes r.last r.runs few full
