use Rattle.std.proofs.Common.{rules}
use Rattle.kernel_model.specs.declared.events.Event.TheVariants.{Dispatch}
use Rattle.kernel_model.specs.History.{GoesOn, IsTask}
use Rattle.proc_table.specs.Slots.{at}
use Rattle.step_session.specs.Sessions.{Takes}
use Rattle.step_session.proofs.Adding.{begun, still}
use Rattle.step_session.proofs.turning.take_next.Goals as goal

pub make_call-requires : goal.make_call-requires
make_call-requires g c =
    let call = g.M.Machine.call_of in
    let next = g.M.Machine.next_of in
    let task = c.in-Some.task in
    let goes : GoesOn call next c.args.kernel.now (Dispatch 0 task.pid) c.dispatch.new.self = search rules in
    let is : IsTask (at c.args.kernel.now.now.table task.pid) (g.M.Machine.view task.machine) task.reply = search rules in
    record { begun = begun call next c.args.kernel.now c.dispatch.new.self task.pid (g.M.Machine.view task.machine) task.reply goes is }

pub returns-in-Some-clause-stays : goal.returns-in-Some-clause-stays
returns-in-Some-clause-stays g c =
    let call = g.M.Machine.call_of in
    let next = g.M.Machine.next_of in
    let turn : Takes call next c.args.kernel.now c.in-Some.task.pid c.make_call.new.kernel = search rules in
    still call next c.args.kernel.now c.make_call.new.kernel c.in-Some.task.pid turn c.is_paired.ensures c.is_paired-in-Some.ensures
