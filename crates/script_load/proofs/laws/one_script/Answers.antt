use Rattle.script_load.proofs.OneScript.{one_script, some_script}
use Rattle.script_load.proofs.laws.one_script.Goals as goal

pub returns-clause-exists : goal.returns-clause-exists
returns-clause-exists c bytes fine = some_script bytes fine

pub returns-clause-unique : goal.returns-clause-unique
returns-clause-unique c bytes lines others script other = one_script bytes lines others script other

pub returns-clause-fine : goal.returns-clause-fine
returns-clause-fine c bytes lines script = (script.texts, script.cut, script.fine)
