use Rattle.sh_machine.specs.Turn.{call_of, next_of}
use Rattle.kernel_runs.proofs.OneReport.{one_report}
use Rattle.kernel_runs.proofs.laws.a_schedule_gives_one_report.Goals as goal

pub returns : goal.returns
returns g c = λ start. one_report call_of next_of start c.args._first.now c.args._second.now
