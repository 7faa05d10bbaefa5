use Rattle.std.proofs.Common.{◌≡◌, ◌∙◌, ◌≤◌, ◌<◌, ◌+◌, Some, count_by, length, sym, ap, inl, arith}
use Rattle.proc_table.specs.Slots.{is_running}
use Rattle.kernel_threads.proofs.locked.Locked.verdict.Goals as goal

pub returns-in-Some-Spent-clause-spent : goal.returns-in-Some-Spent-clause-spent
returns-in-Some-Spent-clause-spent g c = λ _.
    let spent = c.over.ensures.spent (c.in-Some-Spent.is ∙ ap Some c.in-Some-Spent.field-0-is) in
    let idle : count_by is_running c.args.self.now.now.table ≡ 0 = rw (← c.self.view_is) (sym c.running.ensures.count ∙ c.if-running-eq0.true) in
    let within : length c.args.self.now.schedule ≤ g.N.Run.turns = rw (← c.self.view_is) (omega (arith, c.is_paired.ensures, c.self.invariant.2)) in
    let few : g.N.Run.turns < length c.args.self.now.schedule + 2 = omega (arith, spent.1, idle) in
    (record { within = within; unfinished = spent.0; idle = idle; over = inl few }, few)
