use Rattle.suite_file.proofs.Data.{no_file}
use Rattle.toml.specs.View.{view}
use Rattle.suite_file.proofs.part.Part.file_of.Goals as goal

pub returns-in-None-None-clause-refused : goal.returns-in-None-None-clause-refused
returns-in-None-None-clause-refused c _ source = no_file (view c.args.value.now) (rw c.in-None-None.is-0 at c.as_str.ensures) c.in-None-None.ensures'.none source
