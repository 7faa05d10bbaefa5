use Rattle.law_kernel.proofs.kernel.Runs.{every_run_rests}
use Rattle.law_kernel.proofs.kernel.every_parent_lives.Goals as goal

pub returns-clause-parents : goal.returns-clause-parents
returns-clause-parents g c = λ r child parent mine.
    (every_run_rests g.M.Machine.call_of g.M.Machine.next_of r.init r.shell r.input r.files r.schedule r.notes r.last r.runs).family.parents child parent mine

pub returns-clause-init : goal.returns-clause-init
returns-clause-init g c = λ r.
    (every_run_rests g.M.Machine.call_of g.M.Machine.next_of r.init r.shell r.input r.files r.schedule r.notes r.last r.runs).family.init

pub returns-clause-eldest : goal.returns-clause-eldest
returns-clause-eldest g c = λ r pid.
    (every_run_rests g.M.Machine.call_of g.M.Machine.next_of r.init r.shell r.input r.files r.schedule r.notes r.last r.runs).family.eldest pid

pub returns-clause-own : goal.returns-clause-own
returns-clause-own g c = λ r pid.
    (every_run_rests g.M.Machine.call_of g.M.Machine.next_of r.init r.shell r.input r.files r.schedule r.notes r.last r.runs).family.own pid
