use Rattle.law_limits.proofs.behind.FewOpens.{few_in_use}
use Rattle.law_limits.proofs.behind.no_run_has_more_files_open_than_its_script_opens.Goals as goal

pub returns : goal.returns
returns c = λ r. few_in_use r.profile r.lines r.input r.files r.schedule r.notes r.last r.runs
