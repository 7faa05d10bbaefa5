use Rattle.suite_file.proofs.Data.{no_input}
use Rattle.suite_file.proofs.test_tables.input_of.Goals as goal

pub returns-in-Err-clause-refused : goal.returns-in-Err-clause-refused
returns-in-Err-clause-refused c at = no_input _ _ (c.in-Err.ensures.refused at)
