use Rattle.suite_file.proofs.Data.{no_source}
use Rattle.suite_file.proofs.test_tables.output_of.Goals as goal

pub returns-in-None-clause-refused : goal.returns-in-None-clause-refused
returns-in-None-clause-refused c _ = no_source _ _ (rw c.in-None.is at c.in_ok-output.ensures.ok)
