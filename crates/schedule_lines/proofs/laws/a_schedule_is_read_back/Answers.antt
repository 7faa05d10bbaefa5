use Rattle.schedule_lines.proofs.Cutting.{own_lines, read_back, no_fault}
use Rattle.schedule_lines.proofs.laws.a_schedule_is_read_back.Goals as goal

pub returns-clause-lines : goal.returns-clause-lines
returns-clause-lines c = own_lines

pub returns-clause-one : goal.returns-clause-one
returns-clause-one c = read_back

pub returns-clause-no_fault : goal.returns-clause-no_fault
returns-clause-no_fault c = no_fault
