use Rattle.std.proofs.Common.{[]}
use Rattle.std.specs.Prelude.{string_bytes}
use Rattle.xvsh_ends.specs.Ends.{help, helped}
use Rattle.xvsh_ends.proofs.Dues.{due_by, due_memory}
use Rattle.xvsh.proofs.parsing.error_ending.Goals as goal

pub returns-in-Ok-clause-help : goal.returns-in-Ok-clause-help
returns-in-Ok-clause-help c = λ other shown input file.
    let text = string_bytes c.in-Ok.text in
    due_by input file help text [] 0 c.help_ending.result c.help_ending.ensures.out c.help_ending.ensures.told c.help_ending.ensures.status (helped text)

pub returns-in-Err-clause-help : goal.returns-in-Err-clause-help
returns-in-Err-clause-help c = λ other shown input file. due_memory input file help c.report_no_memory-in-Err.result c.report_no_memory-in-Err.ensures
