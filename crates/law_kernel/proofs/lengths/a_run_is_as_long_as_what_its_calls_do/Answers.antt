use Rattle.std.proofs.Common.{arith}
use Rattle.law_kernel.proofs.lengths.Lengths.{every_run_spends, nobody_runs, nobody_sleeps, within}
use Rattle.law_kernel.proofs.lengths.a_run_is_as_long_as_what_its_calls_do.Goals as goal

pub returns-clause-kinds : goal.returns-clause-kinds
returns-clause-kinds g c = λ r are.
    (every_run_spends g.M.Machine.call_of g.M.Machine.next_of r.init r.shell r.input r.files are r.schedule r.notes r.last r.runs).kinds

pub returns-clause-dispatches : goal.returns-clause-dispatches
returns-clause-dispatches g c = λ r are.
    let call = g.M.Machine.call_of in
    let next = g.M.Machine.next_of in
    let spent = every_run_spends call next r.init r.shell r.input r.files are r.schedule r.notes r.last r.runs in
    omega (arith, spent.kinds, spent.turns, nobody_runs call next r.init r.shell r.input r.files are)

pub returns-clause-sleeps : goal.returns-clause-sleeps
returns-clause-sleeps g c = λ r are.
    let call = g.M.Machine.call_of in
    let next = g.M.Machine.next_of in
    let spent = every_run_spends call next r.init r.shell r.input r.files are r.schedule r.notes r.last r.runs in
    omega (arith, spent.naps, (within call next r.init r.shell r.input r.files are r.schedule r.notes r.last r.runs).1, nobody_sleeps call next r.init r.shell r.input r.files are)

pub returns-clause-all : goal.returns-clause-all
returns-clause-all g c = λ r are.
    let call = g.M.Machine.call_of in
    let next = g.M.Machine.next_of in
    let spent = every_run_spends call next r.init r.shell r.input r.files are r.schedule r.notes r.last r.runs in
    let few = within call next r.init r.shell r.input r.files are r.schedule r.notes r.last r.runs in
    omega (arith, spent.kinds, spent.turns, spent.naps, few.0, few.1, nobody_runs call next r.init r.shell r.input r.files are, nobody_sleeps call next r.init r.shell r.input r.files are)
