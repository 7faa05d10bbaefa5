use Rattle.std.proofs.Common.{◌≤◌, length, sym, subst, arith}
use Rattle.embed.specs.Starting.{max_input}
use Rattle.embed.specs.Asks.{IsAskFault}
use Rattle.embed.proofs.Asked.{asked}
use Rattle.embed.proofs.finding.find_of.Goals as goal

pub returns-in-Err-clause-fault : goal.returns-in-Err-clause-fault
returns-in-Err-clause-fault c =
    let script = c.args.task.now.script.now in
    let short : length script ≤ max_input = omega arith in
    subst (IsAskFault script) (sym c.of_fault.ensures) (asked script _ short c.in-Err.fault c.in-Err.ensures.fault)
