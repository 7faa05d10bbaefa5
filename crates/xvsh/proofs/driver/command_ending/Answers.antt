use Rattle.std.proofs.Common.{[]}
use Rattle.xvsh_ends.specs.Ends.{misuse, misused}
use Rattle.xvsh_ends.proofs.Dues.{due_by}
use Rattle.xvsh.specs.Drive.{asks_nothing}
use Rattle.xvsh.proofs.Sights.{asked_by}
use Rattle.xvsh.proofs.driver.command_ending.Goals as goal

pub returns-in-None-clause-due : goal.returns-in-None-clause-due
returns-in-None-clause-due g c =
    let input = g.H.Host.input c.args.host.now in
    let file = g.H.Host.file c.args.host.now in
    (record { input = input; file = file }, misuse, asks_nothing (c.request_of.ensures.none c.in-None.is), due_by input file misuse [] [] 2 c.report.result c.report.ensures.nothing c.report.ensures.reported c.report.ensures.with (misused []))

pub returns-in-Some-clause-due : goal.returns-in-Some-clause-due
returns-in-Some-clause-due g c =
    asked_by (g.H.Host.input c.args.host.now) (g.H.Host.file c.args.host.now) c.args.matches.now c.in-Some.request c.inputs_of.result c.given_ending.result c.in-Some.ensures.request c.inputs_of.ensures c.given_ending.ensures.due
