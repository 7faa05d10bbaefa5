use Rattle.xvsh.specs.Drive.{of_command}
use Rattle.xvsh.specs.Parsing.{IsUnparsed}
use Rattle.xvsh.proofs.Coming.{unparsed}
use Rattle.xvsh.proofs.driver.words_ending.Goals as goal

pub returns-in-Ok-clause-due : goal.returns-in-Ok-clause-due
returns-in-Ok-clause-due g c =
    let due = c.command_ending.ensures.due in
    of_command c.in-Ok.matches due.0 due.1 c.in-Ok.ensures.parsed due.2 due.3

pub returns-in-Err-clause-due : goal.returns-in-Err-clause-due
returns-in-Err-clause-due g c =
    let input = g.H.Host.input c.args.host.now in
    let file = g.H.Host.file c.args.host.now in
    unparsed input file _ c.in-Err.ending (c.in-Err.ensures.unparsed input file)
