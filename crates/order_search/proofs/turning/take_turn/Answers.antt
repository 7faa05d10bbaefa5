use Rattle.std.proofs.Common.{◌≡◌, ℕ, subst, rules}
use Rattle.proc_table.specs.Calls.{CanDispatch, dispatched}
use Rattle.kernel_model.specs.Events.{counted}
use Rattle.order_search.proofs.Turned.{given_sound, turned, turned_events}
use Rattle.order_search.proofs.turning.take_turn.Goals as goal

pub trap-requires-clause-sound : goal.trap-requires-clause-sound
trap-requires-clause-sound g c =
    let k = c.args.state.now in
    let can : CanDispatch k.table 0 c.index.result = search rules in
    let given : c.dispatch_pid.new.self ≡ record (counted k) { table = dispatched k.table c.index.result 0 } = search rules in
    given_sound k c.dispatch_pid.new.self c.index.result can given c.requires.sound

pub returns-in-Found-clause-turn : goal.returns-in-Found-clause-turn
returns-in-Found-clause-turn g c = λ is.
    let k = c.args.state.now in
    let can : CanDispatch k.table 0 c.index.result = search rules in
    let given : c.dispatch_pid.new.self ≡ record (counted k) { table = dispatched k.table c.index.result 0 } = search rules in
    turned k c.dispatch_pid.new.self c.args.pid
    (subst (λ (n : ℕ). CanDispatch k.table 0 n) c.index.ensures.value can)
    (subst (λ (n : ℕ). c.dispatch_pid.new.self ≡ record (counted k) { table = dispatched k.table n 0 }) c.index.ensures.value given)
    g.M.Machine.call_of g.M.Machine.next_of c.trap.new.state c.ask.new.call c.ask.ensures c.in-Found.ensures.after

pub returns-in-Found-clause-events : goal.returns-in-Found-clause-events
returns-in-Found-clause-events g c = λ is.
    let k = c.args.state.now in
    let can : CanDispatch k.table 0 c.index.result = search rules in
    let given : c.dispatch_pid.new.self ≡ record (counted k) { table = dispatched k.table c.index.result 0 } = search rules in
    turned_events k c.dispatch_pid.new.self c.args.pid
    (subst (λ (n : ℕ). CanDispatch k.table 0 n) c.index.ensures.value can)
    (subst (λ (n : ℕ). c.dispatch_pid.new.self ≡ record (counted k) { table = dispatched k.table n 0 }) c.index.ensures.value given)
    g.M.Machine.call_of g.M.Machine.next_of c.trap.new.state c.ask.new.call c.ask.ensures c.in-Found.ensures.after
